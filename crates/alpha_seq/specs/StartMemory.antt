-- The memory at the start while its blocks are added.
use Rattle.std.specs.Prelude.{ℕ, ◌-◌, true, false, List, [], ◌∷◌, take, map}
use Rattle.std.specs.List.{flat_map}
use Rattle.alpha_mem.specs.Block.{Block, block}
use Rattle.alpha_image.specs.Layout.{longword}
use Rattle.alpha_image.specs.Parts.{Parts, Piece, pieces}
use Rattle.alpha_seq.specs.Start.{stack_end}

-- the code
abbrev pub code_block : Parts → Block
code_block p = block p.code_base (flat_map longword p.words) 0 false

-- a segment: its bytes and its zeroed bytes
abbrev pub segment_block : Piece → Block
segment_block piece = block piece.base piece.bytes piece.zeroed true

-- the stack
abbrev pub stack_block : Parts → Block
stack_block p = block (stack_end - p.stack) [] p.stack true

-- the code and so many segments
unfoldable pub memory_before : Parts → ℕ → List Block
memory_before p n = code_block p ∷ map segment_block (take n (pieces p))
