mod Sessions
mod Opened
mod Cutting
