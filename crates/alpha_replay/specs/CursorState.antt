-- How the last step went, behind steps that only go on or pass a barrier.
use Rattle.std.specs.Prelude.{ℕ, zero, suc}
use Rattle.alpha_seq.specs.declared.event.Event.TheVariants.{Went}
use Rattle.alpha_replay.specs.declared.play.Cursor.{Cursor}

-- the cursor behind so many of them, which put nothing and end no run
abbrev pub cursor_after : Cursor → ℕ → Cursor
cursor_after cursor zero = cursor
cursor_after cursor (suc n) = record cursor { last = Went }
