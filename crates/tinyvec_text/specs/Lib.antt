pub mod InlineText
