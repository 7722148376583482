-- Laws of what calls in a row did to one sink.
use Rattle.std.proofs.Common.{ℕ, List, [], ◌++◌, Option, refl, ◌∙◌, arith}
use Rattle.std.proofs.KnownBytes.{Appends-nil, Appends-trans, Keeps-refl}
use Rattle.alpha_io.specs.SinkChange.{SinkChange, Puts, WritesPartly, HasFailed, HasNoFault}
use Rattle.alpha_io.proofs.FaultCounts.{Faulted-not_NoFault}
use Rattle.alpha_io.proofs.Writes.{WritesPrefix-none, WritesPrefix-all, WritesPrefix-after, WritesPrefix-more}

-- a sink that was not called
pub Puts-none : (old : Option (List ℕ)) (count : ℕ)
    → Puts (record { old = old; new = old; before = count; now = count }) []
Puts-none old count = record { written = Appends-nil old; same = refl }

-- first these bytes, then those
pub Puts-then : (old middle new : Option (List ℕ)) (before between now : ℕ) (xs ys : List ℕ)
    → Puts (record { old = old; new = middle; before = before; now = between }) xs
    → Puts (record { old = middle; new = new; before = between; now = now }) ys
    → Puts (record { old = old; new = new; before = before; now = now }) (xs ++ ys)
Puts-then old middle new before between now xs ys first second = record {
  written = Appends-trans old middle new xs ys first.written second.written;
  same = second.same ∙ first.same;
}

-- a sink that was not called got a prefix of anything
pub WritesPartly-none : (old : Option (List ℕ)) (count : ℕ) (bytes : List ℕ)
    → WritesPartly (record { old = old; new = old; before = count; now = count }) bytes
WritesPartly-none old count bytes =
    record { prefix = WritesPrefix-none old old bytes (Keeps-refl old); later = omega arith }

-- what was written whole is a prefix of what begins with it
pub WritesPartly-whole : (s : SinkChange) (xs ys : List ℕ) → Puts s xs → WritesPartly s (xs ++ ys)
WritesPartly-whole s xs ys whole = record {
  prefix = WritesPrefix-more s.old s.new xs ys (WritesPrefix-all s.old s.new xs whole.written);
  later = omega (arith, whole.same);
}

-- a prefix of these bytes is one of all that begins with them
pub WritesPartly-more : (s : SinkChange) (xs ys : List ℕ) → WritesPartly s xs → WritesPartly s (xs ++ ys)
WritesPartly-more s xs ys part = record { prefix = WritesPrefix-more s.old s.new xs ys part.prefix; later = part.later }

-- first these bytes, then a prefix of those
pub WritesPartly-then : (old middle new : Option (List ℕ)) (before between now : ℕ) (xs ys : List ℕ)
    → Puts (record { old = old; new = middle; before = before; now = between }) xs
    → WritesPartly (record { old = middle; new = new; before = between; now = now }) ys
    → WritesPartly (record { old = old; new = new; before = before; now = now }) (xs ++ ys)
WritesPartly-then old middle new before between now xs ys first second = record {
  prefix = WritesPrefix-after old middle new xs ys first.written second.prefix;
  later = omega (arith, first.same, second.later);
}

-- a sink that failed isn't calm
pub HasFailed-not_HasNoFault : (s : SinkChange) → HasFailed s → HasNoFault s → ⊥
HasFailed-not_HasNoFault s failed calm = Faulted-not_NoFault s.before s.now failed calm
