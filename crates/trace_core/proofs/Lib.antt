mod DocShapes
mod Events
mod Following
mod HeadOutlines
mod LastLines
mod Outlines
mod SlotOutlines
mod Works
