-- What was worked by hand and computed here: boards, segments, lines that are printed, desks; and the table of document 01's cases.
pub mod Boards
pub mod Segments
pub mod Lines
pub mod Cases
pub mod Table
