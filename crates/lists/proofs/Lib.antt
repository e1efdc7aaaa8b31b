pub mod Powers
pub mod Replies
