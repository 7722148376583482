-- What no step of the machines changes.
use Rattle.std.specs.Prelude.{◌≡◌, refl}
use Rattle.std.proofs.Common.{◌∙◌}
use Rattle.alpha_mem.specs.Block.{shapes}
use Rattle.alpha_seq.specs.declared.machine.Machine.{Machine}
use Rattle.alpha_seq.specs.Machine.{Stays}
use Rattle.alpha_imprecise.specs.ImpreciseState.{ImpreciseState}

pub stays_own : (m : Machine) → Stays m m
stays_own m = record { program = refl; mode = refl }

pub stays_on : (m n o : Machine) → Stays m n → Stays n o → Stays m o
stays_on m n o one two = record { program = two.program ∙ one.program; mode = two.mode ∙ one.mode }

-- the program and the mode, and where the blocks of memory lie
pub record SeqStays (old new : Machine) : Type 0 where
  pub stays : Stays old new
  pub blocks : shapes new.memory ≡ shapes old.memory

pub seq_own : (m : Machine) → SeqStays m m
seq_own m = record { stays = stays_own m; blocks = refl }

pub seq_on : (m n o : Machine) → SeqStays m n → SeqStays n o → SeqStays m o
seq_on m n o one two = record { stays = stays_on m n o one.stays two.stays; blocks = two.blocks ∙ one.blocks }

-- the program and the mode
abbrev pub ImpreciseStays : ImpreciseState → ImpreciseState → Type 0
ImpreciseStays old new = Stays old.machine new.machine

pub imprecise_own : (w : ImpreciseState) → ImpreciseStays w w
imprecise_own w = stays_own w.machine

pub imprecise_on : (v w x : ImpreciseState) → ImpreciseStays v w → ImpreciseStays w x → ImpreciseStays v x
imprecise_on v w x one two = stays_on v.machine w.machine x.machine one two
