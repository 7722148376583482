-- What a block takes in a row, and what is written where the sink fails. `written` is what the sink tells and `faults`
-- its count; o, p, q and r are the sink at one moment after another.
use Rattle.std.proofs.Common.{◌≡◌, ℕ, List, [], ◌++◌, Option, Result, Ok, Err, OnErr, sym, ap, subst, ◌∙◌, append_assoc}
use Rattle.std.proofs.Common.{append-nil, arith}
use Rattle.alpha_io.specs.SinkChange.{SinkChange, sink_change_by, Puts, WritesPartly}
use Rattle.alpha_io.proofs.FaultCounts.{Faulted-earlier}
use Rattle.alpha_io.proofs.Sinks.{Puts-then, WritesPartly-whole, WritesPartly-then, WritesPartly-more}
use Rattle.alpha_dis.specs.SinkEffect.{Takes, SinkFails}

-- what holds anyhow holds where a call failed
pub listing_OnErr-any : {T E P : Type 0} (result : Result T E) → P → OnErr result P
listing_OnErr-any (Ok x) p = tt
listing_OnErr-any (Err e) p = p

-- what was written whole was written in part
pub WritesPartly-all : (s : SinkChange) (bytes : List ℕ) → Puts s bytes → WritesPartly s bytes
WritesPartly-all s bytes puts = subst (WritesPartly s) (append-nil bytes) (WritesPartly-whole s bytes [] puts)

-- the block alone has grown
pub Takes-more : (s : SinkChange) (a b c xs ys : List ℕ) → Takes s a b xs → c ≡ b ++ ys → Takes s a c (xs ++ ys)
Takes-more s a b c xs ys taken grown = record {
  sent = taken.sent;
  puts = taken.puts;
  whole =
      sym (append_assoc a xs ys)
      ∙ (ap (λ (l : List ℕ). l ++ ys) taken.whole
      ∙ (append_assoc taken.sent b ys ∙ ap (λ (l : List ℕ). taken.sent ++ l) (sym grown)));
}

-- more bytes were to come
pub SinkFails-more : (s : SinkChange) (xs ys : List ℕ) → SinkFails s xs → SinkFails s (xs ++ ys)
SinkFails-more s xs ys stops = record { part = WritesPartly-more s xs ys stops.part; failed = stops.failed }

module _ {K : Type 0} (written : K → Option (List ℕ)) (faults : K → ℕ) (o p q : K) (a b xs : List ℕ) where
  -- first these bytes, then those
  pub Takes-then : (c ys : List ℕ) → Takes (sink_change_by written faults o p) a b xs
      → Takes (sink_change_by written faults p q) b c ys → Takes (sink_change_by written faults o q) a c (xs ++ ys)
  Takes-then c ys one two = record {
    sent = one.sent ++ two.sent;
    puts =
        Puts-then (written o) (written p) (written q) (faults o) (faults p)
        (faults q) one.sent two.sent one.puts two.puts;
    whole =
        sym (append_assoc a xs ys)
        ∙ (ap (λ (l : List ℕ). l ++ ys) one.whole
        ∙ (append_assoc one.sent b ys
        ∙ (ap (λ (l : List ℕ). one.sent ++ l) two.whole
        ∙ sym (append_assoc one.sent two.sent c))));
  }

  -- first these bytes, and then all that the block held was put
  pub Puts-held : Takes (sink_change_by written faults o p) a b xs → Puts (sink_change_by written faults p q) b
      → Puts (sink_change_by written faults o q) (a ++ xs)
  Puts-held one two =
      subst (Puts (sink_change_by written faults o q)) (sym one.whole)
      (Puts-then (written o) (written p) (written q) (faults o) (faults p) (faults q) one.sent b one.puts two)

  -- first these bytes, then the sink failed
  pub SinkFails-then : (ys : List ℕ) → Takes (sink_change_by written faults o p) a b xs
      → SinkFails (sink_change_by written faults p q) (b ++ ys)
      → SinkFails (sink_change_by written faults o q) (a ++ (xs ++ ys))
  SinkFails-then ys one two = record {
    part =
        subst (WritesPartly (sink_change_by written faults o q))
        (sym (append_assoc one.sent b ys) ∙ (ap (λ (l : List ℕ). l ++ ys) (sym one.whole) ∙ append_assoc a xs ys))
        (WritesPartly-then (written o) (written p) (written q) (faults o) (faults p) (faults q) one.sent
        (b ++ ys) one.puts two.part);
    failed = Faulted-earlier (faults o) (faults p) (faults q) (omega (arith, one.puts.same)) two.failed;
  }

  -- the same, where it failed on what the block held
  pub SinkFails-held : (ys : List ℕ) → Takes (sink_change_by written faults o p) a b xs
      → SinkFails (sink_change_by written faults p q) b
      → SinkFails (sink_change_by written faults o q) (a ++ (xs ++ ys))
  SinkFails-held ys one two = SinkFails-then ys one (SinkFails-more (sink_change_by written faults p q) b ys two)

-- ---- three parts in a row

module _ {K : Type 0} (written : K → Option (List ℕ)) (faults : K → ℕ) (o p q r : K) (a b c d xs ys zs : List ℕ) where
  pub Takes-three : Takes (sink_change_by written faults o p) a b xs → Takes (sink_change_by written faults p q) b c ys
      → Takes (sink_change_by written faults q r) c d zs
      → Takes (sink_change_by written faults o r) a d (xs ++ (ys ++ zs))
  Takes-three one two three =
      Takes-then written faults o p r a b xs d (ys ++ zs) one (Takes-then written faults p q r b c ys d zs two three)

  pub SinkFails-second : Takes (sink_change_by written faults o p) a b xs
      → SinkFails (sink_change_by written faults p q) (b ++ ys)
      → SinkFails (sink_change_by written faults o q) (a ++ (xs ++ (ys ++ zs)))
  SinkFails-second one two =
      SinkFails-then written faults o p q a b xs (ys ++ zs) one
      (subst (SinkFails (sink_change_by written faults p q)) (append_assoc b ys zs)
      (SinkFails-more (sink_change_by written faults p q) (b ++ ys) zs two))

  pub SinkFails-third : Takes (sink_change_by written faults o p) a b xs
      → Takes (sink_change_by written faults p q) b c ys → SinkFails (sink_change_by written faults q r) (c ++ zs)
      → SinkFails (sink_change_by written faults o r) (a ++ (xs ++ (ys ++ zs)))
  SinkFails-third one two three =
      SinkFails-then written faults o p r a b xs (ys ++ zs) one
      (SinkFails-then written faults p q r b c ys zs two three)
