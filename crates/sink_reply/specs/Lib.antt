pub mod SinkReply
pub mod SinkReplyLaws
