-- The state in which a program starts.
use Rattle.std.specs.Prelude.{ℕ, ◌-◌, ◌^◌, true, false, List, [], ◌∷◌, ◌++◌, map, replicate, None}
use Rattle.std.specs.List.{flat_map}
use Rattle.alpha_words.specs.Regs.{put}
use Rattle.alpha_mem.specs.Block.{Block, block}
use Rattle.alpha_image.specs.Layout.{longword}
use Rattle.alpha_image.specs.Parts.{Parts, pieces}
use Rattle.alpha_seq.specs.State.{Program, State}

-- where the stack ends
abbrev pub stack_end : ℕ
stack_end = 2 ^ 30

-- the code, which may be read alone, and a block a segment and the stack, which may be written
unfoldable pub start_memory : Parts → List Block
start_memory p =
    block p.code_base (flat_map longword p.words) 0 false
    ∷ (map (λ piece. block piece.base piece.bytes piece.zeroed true) (pieces p)
    ++ block (stack_end - p.stack) [] p.stack true ∷ [])

-- all registers are 0 but for R27, the entry address, and R30, the end of the stack
unfoldable pub start_regs : Parts → List ℕ
start_regs p = put (put (replicate 32 0) 27 p.entry) 30 stack_end

-- the state at the start
abbrev pub start : Program → State
start g = record {
  regs = start_regs g.image;
  pc = g.image.entry;
  mem = start_memory g.image;
  unique = 0;
  lock = None;
  count = 0;
  logged = 0;
}
