mod Taking
mod Hearing
mod Worked
