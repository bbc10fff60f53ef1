mod Alone
mod Steps
