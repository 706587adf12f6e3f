mod Files
mod Looking
mod Making
mod Opening
mod Compacting
mod Words
