pub mod FieldLayout
pub mod FieldCounts
pub mod InternedFields
pub mod FieldSlots
pub mod LayoutTables
pub mod FieldKinds
