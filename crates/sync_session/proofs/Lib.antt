mod Replies
mod Infos
mod Settled
mod Told
