mod RootTiles
mod LastPictures
mod Owing
