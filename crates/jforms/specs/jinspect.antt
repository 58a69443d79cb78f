pub mod InspectingGuards
