-- What waits in a block, and what is put past it.
use Rattle.std.specs.Prelude.{nat_le}
use Rattle.std.proofs.Common.{◌≡◌, ◌∙◌, ◌+◌, ◌<◌, ℕ, Bool, true, false, cond, List, [], ◌++◌, length, take, Some}
use Rattle.std.proofs.Common.{Result, Ok, Err, OnOk, OnErr, refl, sym, ap, subst, append-nil, arith}
use Rattle.std.proofs.lemmas.Bool.Decides.{nat_tests}
use Rattle.std.proofs.Math.Seq.{take-append_seam}
use Rattle.std.specs.Io.KnownBytes.{Appends}
use Rattle.alpha_io.specs.declared.sink.Sink.{Ghosts}
use Rattle.alpha_io.specs.Faults.{HasCause}
use Rattle.alpha_io.specs.Written.{WritesPrefix}
use Rattle.alpha_io.specs.SinkChange.{sink_change, Puts, WritesPartly}
use Rattle.alpha_io.proofs.FaultCounts.{Faulted-earlier}
use Rattle.alpha_io.proofs.Sinks.{Puts-then, WritesPartly-more, WritesPartly-then}
use Rattle.alpha_debug.specs.declared.block.TheConstants.{BLOCK_ROOM}
use Rattle.alpha_debug.specs.OutputChange.{output_change, if_fits, put_for, waits_for, AppendsOutput, CutShort}
use Rattle.alpha_debug.specs.OutputChange.{SinkFailsWith}

-- what waited was put
pub AppendsOutput-flushed : {K : Type 0} (g : Ghosts K) (o p : K) (waited : List ℕ) → Puts (sink_change g o p) waited
    → AppendsOutput (output_change g o waited p []) []
AppendsOutput-flushed g o p waited puts = record { put = waited; puts = puts; whole = refl }

-- a block that took a part of some bytes has those before them in front
pub WritesPrefix-take_old : (old new bytes : List ℕ) → WritesPrefix (Some old) (Some new) bytes
    → take (length old) new ≡ old
WritesPrefix-take_old old new bytes part =
    ap (λ (l : List ℕ). take (length old) l) part.written ∙ take-append_seam old part.done

-- ---- bytes behind those that wait

fits-no : (a b : ℕ) (x y : List ℕ) → b < a → cond (nat_le a b) x y ≡ y
fits-no a b x y high = let e : nat_le a b ≡ false = grind (arith, nat_tests) in ap (λ (t : Bool). cond t x y) e

pub if-past : (waits bytes x y z : List ℕ) → BLOCK_ROOM < length waits + length bytes → BLOCK_ROOM < length bytes
    → if_fits waits bytes x y z ≡ z
if-past waits bytes x y z high long =
    fits-no (length waits + length bytes) BLOCK_ROOM x _ high ∙ fits-no (length bytes) BLOCK_ROOM y z long

-- all that waited and the bytes behind it are what is put and what waits then
all-by : (a b : Bool) (waits bytes : List ℕ)
    → waits ++ bytes ≡ cond a [] (cond b waits (waits ++ bytes)) ++ cond a (waits ++ bytes) (cond b bytes [])
all-by true b waits bytes = refl
all-by false true waits bytes = refl
all-by false false waits bytes = sym (append-nil (waits ++ bytes))

pub put_for-waits_for : (waits bytes : List ℕ) → waits ++ bytes ≡ put_for waits bytes ++ waits_for waits bytes
put_for-waits_for waits bytes =
    all-by (nat_le (length waits + length bytes) BLOCK_ROOM) (nat_le (length bytes) BLOCK_ROOM) waits bytes

-- what is taken into the block, or put with what waited
pub AppendsOutput-for : {K : Type 0} (g : Ghosts K) (o p : K) (waits bytes new : List ℕ)
    → Puts (sink_change g o p) (put_for waits bytes) → new ≡ waits_for waits bytes
    → AppendsOutput (output_change g o waits p new) bytes
AppendsOutput-for g o p waits bytes new puts is = record {
  put = put_for waits bytes;
  puts = puts;
  whole = put_for-waits_for waits bytes ∙ ap (λ (l : List ℕ). put_for waits bytes ++ l) (sym is);
}

pub SinkFailsWith-for : {K : Type 0} (g : Ghosts K) (o p : K) (waits bytes new : List ℕ)
    → CutShort (sink_change g o p) (put_for waits bytes) → SinkFailsWith (output_change g o waits p new) bytes
SinkFailsWith-for g o p waits bytes new cut = record {
  part =
      subst (WritesPartly (sink_change g o p)) (sym (put_for-waits_for waits bytes))
      (WritesPartly-more (sink_change g o p) (put_for waits bytes) (waits_for waits bytes) cut.part);
  failed = cut.failed;
}

module _ {T E K : Type 0} (g : Ghosts K) (o p q : K) (waited bytes : List ℕ)
    (first : Puts (sink_change g o p) waited) where
  -- bytes that are put past the block, which was put before
  pub AppendsOutput-past : (r : Result T E) → OnOk r (Appends (g.written p) (g.written q) bytes)
      → HasCause (g.faults p) (g.faults q) r → OnOk r (AppendsOutput (output_change g o waited q []) bytes)
  AppendsOutput-past (Ok x) written cause = record {
    put = waited ++ bytes;
    puts =
        Puts-then (g.written o) (g.written p) (g.written q) (g.faults o) (g.faults p) (g.faults q) waited bytes first
        (record { written = written; same = cause.ok });
    whole = sym (append-nil (waited ++ bytes));
  }
  AppendsOutput-past (Err e) written cause = tt

  pub SinkFailsWith-past : (r : Result T E) (waits : List ℕ) → WritesPrefix (g.written p) (g.written q) bytes
      → HasCause (g.faults p) (g.faults q) r → OnErr r (SinkFailsWith (output_change g o waited q waits) bytes)
  SinkFailsWith-past (Ok x) waits part cause = tt
  SinkFailsWith-past (Err e) waits part cause = record {
    part =
        WritesPartly-then (g.written o) (g.written p) (g.written q) (g.faults o) (g.faults p)
        (g.faults q) waited bytes first (record { prefix = part; later = cause.later });
    failed = Faulted-earlier (g.faults o) (g.faults p) (g.faults q) (let same = first.same in omega arith) cause.err;
  }
