pub mod Passes
pub mod StagesLaid
pub mod PliesAdded
pub mod KeyLists
pub mod CacheFrames
pub mod FilmedRoot
