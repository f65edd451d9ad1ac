-- Laws of what the words of a line ask for, the rooms that a line can ask for, and lines read by the definitions.
pub mod Asking
pub mod Loading
pub mod Rooms
pub mod Worked
