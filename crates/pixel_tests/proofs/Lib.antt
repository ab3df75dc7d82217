mod FirstTiles
