-- The devices before a run, between it and a step, and after the step.
use Rattle.std.proofs.Common.{◌≡◌, ℕ, false, List, [], ◌++◌, Option, None, refl, sym, ap, subst, ◌∙◌, append_assoc}
use Rattle.std.specs.Io.KnownBytes.{Appends}
use Rattle.std.proofs.KnownBytes.{Appends-trans}
use Rattle.alpha_io.specs.SinkChange.{SinkChange}
use Rattle.alpha_io.specs.Supply.{Supply}
use Rattle.alpha_io.specs.Written.{WritesPrefix}
use Rattle.alpha_io.proofs.Sinks.{Puts-none}
use Rattle.alpha_io.proofs.Writes.{WritesPrefix-more}
use Rattle.alpha_seq.specs.State.{Event, Went, Barriered, Overflowed, Ends}
use Rattle.alpha_seq.specs.Run.{end_of, is_over}
use Rattle.alpha_seq.specs.Devices.{Drawn, WritesBetween, Idles}

-- the devices before a run, between it and a step, and after the step
pub record StepTimes (T : Type 0) : Type 0 where
  pub first : T
  pub mid : T
  pub last : T
  pub faults_first : ℕ
  pub faults_mid : ℕ
  pub faults_last : ℕ

-- by what the device tells, and its count of faults
abbrev pub step_times : {D T : Type 0} → (D → T) → (D → ℕ) → D → D → D → StepTimes T
step_times tells faults first mid last = record {
  first = tells first;
  mid = tells mid;
  last = tells last;
  faults_first = faults first;
  faults_mid = faults mid;
  faults_last = faults last;
}

abbrev pub drawn_before : StepTimes Supply → Drawn
drawn_before t = record { old = t.first; new = t.mid; before = t.faults_first; now = t.faults_mid }

abbrev pub drawn_after : StepTimes Supply → Drawn
drawn_after t = record { old = t.mid; new = t.last; before = t.faults_mid; now = t.faults_last }

abbrev pub drawn_over : StepTimes Supply → Drawn
drawn_over t = record { old = t.first; new = t.last; before = t.faults_first; now = t.faults_last }

abbrev pub sunk_before : StepTimes (Option (List ℕ)) → SinkChange
sunk_before t = record { old = t.first; new = t.mid; before = t.faults_first; now = t.faults_mid }

abbrev pub sunk_after : StepTimes (Option (List ℕ)) → SinkChange
sunk_after t = record { old = t.mid; new = t.last; before = t.faults_mid; now = t.faults_last }

abbrev pub sunk_over : StepTimes (Option (List ℕ)) → SinkChange
sunk_over t = record { old = t.first; new = t.last; before = t.faults_first; now = t.faults_last }

-- ---- the definition

pub over-end : (event : Event) → end_of event ≡ None → is_over event ≡ false
over-end Went e = refl
over-end (Barriered traffic pc regs) e = refl
over-end (Overflowed at) e = refl
over-end (Ends end) e = absurd cc

-- ---- devices

pub Appends-WritesBetween : (old mid new : Option (List ℕ)) (xs zs ys : List ℕ) → Appends old mid xs
    → WritesPrefix mid new zs
    → ys ≡ xs ++ zs → WritesBetween old new xs ys
Appends-WritesBetween old mid new xs zs ys first part is = record {
  more = part.done;
  rest = part.rest;
  whole = append_assoc xs part.done part.rest ∙ ap (λ l. xs ++ l) part.whole ∙ sym is;
  written = Appends-trans old mid new xs part.done first part.written;
}

-- nothing was written of what the step shows
pub idle-part : (s : SinkChange) (bytes : List ℕ) → Idles s → WritesPrefix s.old s.new bytes
idle-part s bytes idle = record {
  done = [];
  rest = bytes;
  whole = refl;
  written = subst (λ (l : Option (List ℕ)). Appends s.old l []) (sym idle.written) (Puts-none s.old 0).written;
}

-- a run that was cut short wrote a front of what a longer one shows
pub WritesBetween-prefix : (old new : Option (List ℕ)) (xs ys more zs : List ℕ) → WritesBetween old new xs ys
    → zs ≡ ys ++ more
    → WritesPrefix old new zs
WritesBetween-prefix old new xs ys more zs b is =
    let written : WritesPrefix old new ys =
    record { done = xs ++ b.more; rest = b.rest; whole = b.whole; written = b.written } in
    subst (WritesPrefix old new) (sym is) (WritesPrefix-more old new ys more written)
