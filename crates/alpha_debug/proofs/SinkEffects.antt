-- What calls in a row did to one sink and the block before it. `written` is what the sink tells and `faults` its count;
-- o, p and q are the sink and the block at one moment after another.
use Rattle.std.proofs.Common.{◌≡◌, ◌∙◌, ℕ, List, [], ◌++◌, Option, Result, Ok, Err, OnOk, OnErr, refl, sym, ap, subst}
use Rattle.std.proofs.Common.{append_assoc, append-nil, arith}
use Rattle.alpha_io.specs.SinkChange.{SinkChange, sink_change_by, Puts, WritesPartly}
use Rattle.alpha_io.specs.declared.sink.Sink.{Ghosts}
use Rattle.alpha_io.proofs.FaultCounts.{Faulted-earlier}
use Rattle.alpha_io.proofs.Sinks.{Puts-none, Puts-then, WritesPartly-then, WritesPartly-more}
use Rattle.alpha_debug.specs.OutputChange.{OutputChange, output_change, output_change_by, AppendsOutput, SinkFailsWith}
use Rattle.alpha_debug.specs.Effects.{Grows, FailsBehind}

-- a sink before which nothing waited, and nothing waits
abbrev pub output_without_block : SinkChange → OutputChange
output_without_block s = record { sink = s; old = []; new = [] }

-- a fact that follows, where a call succeeded and where it failed
pub OnOk-map : {T E P Q : Type 0} (result : Result T E) → (P → Q) → OnOk result P → OnOk result Q
OnOk-map (Ok x) f p = f p
OnOk-map (Err e) f p = tt

pub OnOk-both : {T E P Q R : Type 0} (result : Result T E) → (P → Q → R) → OnOk result P → OnOk result Q → OnOk result R
OnOk-both (Ok x) f p q = f p q
OnOk-both (Err e) f p q = tt

pub OnErr-map : {T E P Q : Type 0} (result : Result T E) → (P → Q) → OnErr result P → OnErr result Q
OnErr-map (Ok x) f p = tt
OnErr-map (Err e) f p = f p

pub Grows-same : (text : List ℕ) → Grows text text
Grows-same text = record { bytes = []; is = sym (append-nil text) }

pub Grows-by : (text bytes : List ℕ) → Grows text (text ++ bytes)
Grows-by text bytes = record { bytes = bytes; is = refl }

pub Grows-trans : (a b c : List ℕ) → Grows a b → Grows b c → Grows a c
Grows-trans a b c first second = record {
  bytes = first.bytes ++ second.bytes;
  is = second.is ∙ (ap (λ (l : List ℕ). l ++ second.bytes) first.is ∙ append_assoc a first.bytes second.bytes);
}

-- more bytes were to come
pub SinkFailsWith-more : (s : OutputChange) (xs ys : List ℕ) → SinkFailsWith s xs → SinkFailsWith s (xs ++ ys)
SinkFailsWith-more s xs ys stops =
    let longer : (s.old ++ xs) ++ ys ≡ s.old ++ (xs ++ ys) = append_assoc s.old xs ys in
    record {
      part = subst (WritesPartly s.sink) longer (WritesPartly-more s.sink (s.old ++ xs) ys stops.part);
      failed = stops.failed;
    }

pub FailsBehind-more : (s : OutputChange) (front text whole : List ℕ) → FailsBehind s front text → Grows text whole
    → FailsBehind s front whole
FailsBehind-more s front text whole breaks more = record {
  bytes = breaks.bytes ++ more.bytes;
  is = more.is ∙ (ap (λ (l : List ℕ). l ++ more.bytes) breaks.is ∙ append_assoc front breaks.bytes more.bytes);
  stops = SinkFailsWith-more s breaks.bytes more.bytes breaks.stops;
}

-- no call
pub AppendsOutput-none : {K : Type 0} (g : Ghosts K) (o : K) (waits : List ℕ)
    → AppendsOutput (output_change g o waits o waits) []
AppendsOutput-none g o waits =
    record { put = []; puts = Puts-none (g.written o) (g.faults o); whole = append-nil waits }

-- where nothing waited and nothing waits, all was put
pub Puts-output_change : (s : OutputChange) (bytes : List ℕ) → s.old ≡ [] → s.new ≡ [] → AppendsOutput s bytes
    → Puts s.sink bytes
Puts-output_change s bytes none empty gathers =
    let all : bytes ≡ gathers.put =
    ap (λ (l : List ℕ). l ++ bytes) (sym none)
    ∙ (gathers.whole ∙ (ap (λ (l : List ℕ). gathers.put ++ l) empty ∙ append-nil gathers.put)) in
    subst (Puts s.sink) (sym all) gathers.puts

-- what is gathered behind what was put
pub both-whole : (a b c put next xs ys : List ℕ) → a ++ xs ≡ put ++ b → b ++ ys ≡ next ++ c
    → a ++ (xs ++ ys) ≡ (put ++ next) ++ c
both-whole a b c put next xs ys first second =
    sym (append_assoc a xs ys)
    ∙ (ap (λ (l : List ℕ). l ++ ys) first
    ∙ (append_assoc put b ys
    ∙ (ap (λ (l : List ℕ). put ++ l) second ∙ sym (append_assoc put next c))))

-- what waits behind what was put, and then more
stops-whole : (a b put xs ys : List ℕ) → a ++ xs ≡ put ++ b → put ++ (b ++ ys) ≡ a ++ (xs ++ ys)
stops-whole a b put xs ys first =
    sym (append_assoc put b ys) ∙ (ap (λ (l : List ℕ). l ++ ys) (sym first) ∙ append_assoc a xs ys)

module _ {K : Type 0} (written : K → Option (List ℕ)) (faults : K → ℕ) (o p q : K × List ℕ) (xs : List ℕ) where
  -- first these bytes, then those
  pub AppendsOutput-both : (ys : List ℕ) → AppendsOutput (output_change_by written faults o p) xs
      → AppendsOutput (output_change_by written faults p q) ys
      → AppendsOutput (output_change_by written faults o q) (xs ++ ys)
  AppendsOutput-both ys first second = record {
    put = first.put ++ second.put;
    puts =
        Puts-then (written o.0) (written p.0) (written q.0) (faults o.0) (faults p.0)
        (faults q.0) first.put second.put first.puts second.puts;
    whole = both-whole o.1 p.1 q.1 first.put second.put xs ys first.whole second.whole;
  }

  -- first these bytes, then the sink failed
  pub SinkFailsWith-after : (ys : List ℕ) → AppendsOutput (output_change_by written faults o p) xs
      → SinkFailsWith (output_change_by written faults p q) ys
      → SinkFailsWith (output_change_by written faults o q) (xs ++ ys)
  SinkFailsWith-after ys first second = record {
    part =
        subst (WritesPartly (sink_change_by written faults o.0 q.0)) (stops-whole o.1 p.1 first.put xs ys first.whole)
        (WritesPartly-then (written o.0) (written p.0) (written q.0) (faults o.0) (faults p.0) (faults q.0) first.put
        (p.1 ++ ys) first.puts second.part);
    failed =
        Faulted-earlier (faults o.0) (faults p.0) (faults q.0)
        (let same = first.puts.same in omega arith) second.failed;
  }

  pub FailsBehind-after : (front text : List ℕ) → AppendsOutput (output_change_by written faults o p) xs
      → FailsBehind (output_change_by written faults p q) (front ++ xs) text
      → FailsBehind (output_change_by written faults o q) front text
  FailsBehind-after front text first second = record {
    bytes = xs ++ second.bytes;
    is = second.is ∙ append_assoc front xs second.bytes;
    stops = SinkFailsWith-after second.bytes first second.stops;
  }
