pub mod RewrittenFiles
pub mod LinkageLaws
pub mod MemberLaws
pub mod RewrittenParts
pub mod RewrittenPrograms
pub mod ReferenceLaws
