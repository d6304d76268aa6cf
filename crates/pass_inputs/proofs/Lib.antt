mod Rows
mod Seeking
mod Walks
mod Filled
mod Adding
mod Pieces
mod Ready
