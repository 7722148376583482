-- What the word at the PC is, and what a step would do there.
use Rattle.std.specs.Prelude.{ℕ, List, Option, Some, None, slice_get}
use Rattle.std.specs.Option.{option_and_then}
use Rattle.alpha_table.specs.declared.form.Form.{Form}
use Rattle.alpha_table.specs.Class.{Class, barrier}
use Rattle.alpha_table.specs.ClassOf.{class_of}
use Rattle.alpha_table.specs.Decoded.{decoded}
use Rattle.alpha_image.specs.Parts.{place_of}
use Rattle.alpha_seq.specs.declared.end.End.{End}
use Rattle.alpha_seq.specs.declared.end.End.TheVariants as ends
use Rattle.alpha_seq.specs.declared.end.Next.{Next}
use Rattle.alpha_seq.specs.declared.end.Next.TheVariants.{Outside, Barrier, Faults, Overflows, Plain}
use Rattle.alpha_seq.specs.State.{Program, State, Event, Went, Barriered, Overflowed, Ends}
use Rattle.alpha_seq.specs.Step.{step}

-- the instruction at the PC, none outside the code
abbrev pub next_insn : Program → ℕ → Option Form
next_insn g pc = option_and_then (λ k. option_and_then decoded (slice_get g.image.words k)) (place_of g.image pc)

-- an instruction by the end that it would bring: that of an overflow is no fault
abbrev pub by_end : Form → End → Next
by_end i (ends.Overflow pc) = Overflows i
by_end i end = Faults end

-- an instruction by how its step would go
abbrev pub by_event : Form → Event → Next
by_event i Went = Plain i
by_event i (Barriered traffic pc regs) = Barrier i
by_event i (Overflowed at) = Overflows i
by_event i (Ends end) = by_end i end

-- a barrier is one whatever it would do
abbrev pub by_class : Class → Form → Event → Next
by_class (barrier function) i event = Barrier i
by_class _ i event = by_event i event

abbrev pub next_by : Program → Option Form → State → List ℕ → Next
next_by g None s input = Outside
next_by g (Some i) s input = by_class (class_of i) i (step g (Some (class_of i)) s input).event

-- what a step from a state would do, where this is what there is to be read
abbrev pub next_of : Program → State → List ℕ → Next
next_of g s input = next_by g (next_insn g s.pc) s input
