pub mod Desks
pub mod ReplyBytes
pub mod Replies
pub mod Sessions
pub mod Conversations
pub mod Turns
pub mod Answered
pub mod Tools
