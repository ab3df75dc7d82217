mod ListParts
mod Prefixes
mod Adding
mod Heading
mod Standing
mod Drawing
