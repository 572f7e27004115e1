-- The rewrite: a module for each file of the source, in the order in which they use each other.
-- The calls: the limits of an answer, the rewrite at a record, the pass; then on bytes; the row test.
pub mod Utils
pub mod SimplifyPredicates
pub mod ReorderPredicates
pub mod PushDownFilter
pub mod Limits
pub mod RewriteAt
pub mod Pass
pub mod PassByRecords
pub mod OnBytes
pub mod RowTest
