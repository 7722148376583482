-- The numbers at the front: which are good, and what they stand for.
use Rattle.std.proofs.Common.{◌≡◌, ℕ, zero, suc, ◌<◌, ◌≤◌, true, leb, ltb, None, refl, sym, arith}
use Rattle.std.proofs.lemmas.Bool.{eqb-true, leb-true, ltb-true, le-leb, lt-ltb, and_parts}
use Rattle.alpha_words.specs.declared.Completion.{Completion}
use Rattle.alpha_words.specs.declared.Completion.TheVariants.{Wrap, Saturate, Stop}
use Rattle.alpha_image.specs.FirstOf.{unless}
use Rattle.alpha_image.proofs.FieldRules.{option_or-both_none, unless-none}
use Rattle.alpha_replay.specs.declared.ending.Ending.{Ending}
use Rattle.alpha_replay.specs.declared.ending.Ending.TheVariants.{Exit}
use Rattle.alpha_replay.specs.Endings.{ending_kind, ending_first, ending_second, ending_in, unused_are_zero}
use Rattle.alpha_replay.specs.Journal.{Numbers, most_bytes, most_items, completion_number}
use Rattle.alpha_replay.specs.Reading.{completion_in}
use Rattle.alpha_replay.specs.JournalFault.{bad_field}

-- no field is bad
pub record FieldsFit (n : Numbers) : Type 0 where
  pub completion : n.completion < 3
  pub kind : n.kind < 8
  pub unused : unused_are_zero n.kind n.first n.second ≡ true
  pub input : n.input ≤ most_bytes
  pub output : n.output ≤ most_bytes
  pub items : n.items ≤ most_items

pub bad_field-FieldsFit : (n : Numbers) → bad_field n ≡ None → FieldsFit n
bad_field-FieldsFit n e =
    let a = option_or-both_none (unless (ltb n.completion 3) 1) _ e in
    let b = option_or-both_none (unless (ltb n.kind 8) 2) _ a.1 in
    let c = option_or-both_none (unless (unused_are_zero n.kind n.first n.second) 3) _ b.1 in
    let d = option_or-both_none (unless (leb n.input most_bytes) 4) _ c.1 in
    let f = option_or-both_none (unless (leb n.output most_bytes) 5) _ d.1 in
    let g = option_or-both_none (unless (leb n.items most_items) 6) _ f.1 in
    record {
      completion = ltb-true _ _ (unless-none _ _ a.0);
      kind = ltb-true _ _ (unless-none _ _ b.0);
      unused = unless-none _ _ c.0;
      input = leb-true _ _ (unless-none _ _ d.0);
      output = leb-true _ _ (unless-none _ _ f.0);
      items = leb-true _ _ (unless-none _ _ g.0);
    }

pub FieldsFit-bad_field : (n : Numbers) → FieldsFit n → bad_field n ≡ None
FieldsFit-bad_field n fit =
    rw (
      lt-ltb n.completion 3 fit.completion,
      lt-ltb n.kind 8 fit.kind,
      fit.unused,
      le-leb n.input most_bytes fit.input,
      le-leb n.output most_bytes fit.output,
      le-leb n.items most_items fit.items,
    ) refl

-- the completion of a number has it
pub number-completion_in : (n : ℕ) → n < 3 → completion_number (completion_in n) ≡ n
number-completion_in zero h = refl
number-completion_in (suc zero) h = refl
number-completion_in (suc (suc zero)) h = refl
number-completion_in (suc (suc (suc n))) h = absurd (omega arith)

pub completion_in-number : (c : Completion) → completion_in (completion_number c) ≡ c
completion_in-number Wrap = refl
completion_in-number Saturate = refl
completion_in-number Stop = refl

pub completion_number-lt : (c : Completion) → completion_number c < 3
completion_number-lt Wrap = omega arith
completion_number-lt Saturate = omega arith
completion_number-lt Stop = omega arith

-- the ending of a kind and two numbers has them
pub record HasNumbers (kind first second : ℕ) : Type 0 where
  pub kind_is : ending_kind (ending_in kind first second) ≡ kind
  pub first_is : ending_first (ending_in kind first second) ≡ first
  pub second_is : ending_second (ending_in kind first second) ≡ second

pub ending_in-HasNumbers : (kind first second : ℕ) → kind < 8 → unused_are_zero kind first second ≡ true
    → HasNumbers kind first second
ending_in-HasNumbers zero a b h u =
    let e = and_parts _ _ u in
    record { kind_is = refl; first_is = sym (eqb-true a 0 e.0); second_is = sym (eqb-true b 0 e.1) }
ending_in-HasNumbers (suc zero) a b h u = record { kind_is = refl; first_is = refl; second_is = sym (eqb-true b 0 u) }
ending_in-HasNumbers (suc (suc zero)) a b h u = record { kind_is = refl; first_is = refl; second_is = refl }
ending_in-HasNumbers (suc (suc (suc zero))) a b h u =
    record { kind_is = refl; first_is = refl; second_is = sym (eqb-true b 0 u) }
ending_in-HasNumbers (suc (suc (suc (suc zero)))) a b h u = record { kind_is = refl; first_is = refl; second_is = refl }
ending_in-HasNumbers (suc (suc (suc (suc (suc zero))))) a b h u =
    record { kind_is = refl; first_is = refl; second_is = refl }
ending_in-HasNumbers (suc (suc (suc (suc (suc (suc zero)))))) a b h u =
    record { kind_is = refl; first_is = refl; second_is = refl }
ending_in-HasNumbers (suc (suc (suc (suc (suc (suc (suc zero))))))) a b h u =
    record { kind_is = refl; first_is = refl; second_is = sym (eqb-true b 0 u) }
ending_in-HasNumbers (suc (suc (suc (suc (suc (suc (suc (suc k)))))))) a b h u = absurd (omega arith)

pub ending_in-numbers : (e : Ending) → ending_in (ending_kind e) (ending_first e) (ending_second e) ≡ e
ending_in-numbers (Exit value) = refl
ending_in-numbers e = refl

-- the numbers of an ending are good
pub ending_kind-lt : (e : Ending) → ending_kind e < 8
ending_kind-lt (Exit value) = omega arith
ending_kind-lt e = omega arith

pub unused_are_zero-ending : (e : Ending) → unused_are_zero (ending_kind e) (ending_first e) (ending_second e) ≡ true
unused_are_zero-ending (Exit value) = refl
unused_are_zero-ending e = refl
