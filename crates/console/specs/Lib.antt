pub mod OwnersReplies
pub mod Printed
pub mod Replies
pub mod Verdicts
