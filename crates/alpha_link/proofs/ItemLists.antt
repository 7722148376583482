-- Lists of items, each of which is read by those before it.
use Rattle.std.proofs.Common.{◌≡◌, ℕ, zero, suc, ◌+◌, ◌-◌, ◌<◌, ◌≤◌, List, [], ◌∷◌, ◌++◌, length, refl, ap, sym, ◌∙◌}
use Rattle.std.proofs.Common.{append_assoc, arith}
use Rattle.std.specs.Prelude.{Ok, Err}
use Rattle.std.specs.List.{flat_map}
use Rattle.std.proofs.lemmas.List.{append-nil}
use Rattle.alpha_image.proofs.LittleEndianNumbers.{IsBytes}
use Rattle.alpha_link.specs.declared.fault.ModuleFault.{ModuleFault}
use Rattle.alpha_link.specs.Reading.{Read, and_then, items_at}
use Rattle.alpha_link.specs.Parts.{AreGood}
use Rattle.alpha_link.proofs.ReadingResults.{read_ok, bind_ok, ok_pair}

-- what is read is good and spelled so, and what is good and spelled so is read
pub record IsFormat {X : Type 0} (read : List X → List ℕ → Read X) (spell : X → List ℕ)
    (Good : List X → X → Type 0) : Type 0 where
  pub takes : (before : List X) (bytes : List ℕ) (x : X) (rest : List ℕ) → IsBytes bytes
      → read before bytes ≡ Ok (x, rest) → Good before x × (bytes ≡ spell x ++ rest) × IsBytes rest
  pub again : (before : List X) (x : X) (rest : List ℕ) → Good before x → read before (spell x ++ rest) ≡ Ok (x, rest)

-- so many items were read behind others
pub record AreTaken {X : Type 0} (spell : X → List ℕ) (Good : List X → X → Type 0) (n : ℕ) (before : List X)
    (bytes : List ℕ) (all : List X) (rest : List ℕ) : Type 0 where
  pub items : List X
  pub whole : all ≡ before ++ items
  pub count : length items ≡ n
  pub good : AreGood Good before items
  pub spelled : bytes ≡ flat_map spell items ++ rest
  pub fits : IsBytes rest

pub items_take : {X : Type 0} (read : List X → List ℕ → Read X) (spell : X → List ℕ) (Good : List X → X → Type 0)
    → IsFormat read spell Good
    → (n : ℕ) (before : List X) (bytes : List ℕ) (all : List X) (rest : List ℕ) → IsBytes bytes
    → items_at read n before bytes ≡ Ok (all, rest) → AreTaken spell Good n before bytes all rest
items_take read spell Good format zero before bytes all rest fits e =
    let p = ok_pair before all bytes rest e in
    record {
      items = [];
      whole = sym p.0 ∙ sym (append-nil before);
      count = refl;
      good = tt;
      spelled = p.1;
      fits = λ i. rw (sym p.1) (fits i);
    }
items_take {X} read spell Good format (suc n) before bytes all rest fits e =
    let b = bind_ok (read before bytes) (λ (x : X × List ℕ). items_at read n (before ++ x.0 ∷ []) x.1) (all, rest) e in
    let x = b.0.0 in
    let t = format.takes before bytes x b.0.1 fits b.1 in
    let later = items_take read spell Good format n (before ++ x ∷ []) b.0.1 all rest t.2 b.2 in
    record {
      items = x ∷ later.items;
      whole = later.whole ∙ append_assoc before (x ∷ []) later.items;
      count = ap suc later.count;
      good = (t.0, later.good);
      spelled =
          t.1
          ∙ (ap (λ (s : List ℕ). spell x ++ s) later.spelled
          ∙ sym (append_assoc (spell x) (flat_map spell later.items) rest));
      fits = later.fits;
    }

pub items_again : {X : Type 0} (read : List X → List ℕ → Read X) (spell : X → List ℕ) (Good : List X → X → Type 0)
    → IsFormat read spell Good
    → (before xs : List X) (rest : List ℕ) → AreGood Good before xs
    → items_at read (length xs) before (flat_map spell xs ++ rest) ≡ Ok (before ++ xs, rest)
items_again {X} read spell Good format before [] rest good =
    ap (λ (l : List X). read_ok (l, rest)) (sym (append-nil before))
items_again {X} read spell Good format before (x ∷ xs) rest good =
    let more = flat_map spell xs ++ rest in
    ap (λ (t : List ℕ). items_at read (suc (length xs)) before t) (append_assoc (spell x) (flat_map spell xs) rest)
    ∙ (ap (λ (r : Read X). and_then r (λ (y : X × List ℕ). items_at read (length xs) (before ++ y.0 ∷ []) y.1))
    (format.again before x more good.0)
    ∙ (items_again read spell Good format (before ++ x ∷ []) xs rest good.1
    ∙ ap (λ (l : List X). read_ok (l, rest)) (append_assoc before (x ∷ []) xs)))

-- a loop over items: one item more
pub format-continues : {X : Type 0} (read : List X → List ℕ → Read X) (n k : ℕ)
    (before : List X) (bytes : List ℕ) (x : X) (rest : List ℕ) (whole : Read (List X))
    → k < n
    → items_at read (n - k) before bytes ≡ whole → read before bytes ≡ Ok (x, rest)
    → items_at read (n - (k + 1)) (before ++ x ∷ []) rest ≡ whole
format-continues {X} read n k before bytes x rest whole below e r =
    let left : n - k ≡ suc (n - (k + 1)) = omega arith in
    sym (ap (λ (o : Read X). and_then o (λ (y : X × List ℕ). items_at read (n - (k + 1)) (before ++ y.0 ∷ []) y.1)) r)
    ∙ (sym (ap (λ (j : ℕ). items_at read j before bytes) left) ∙ e)

-- an item that is refused
pub items_at-stops : {X : Type 0} (read : List X → List ℕ → Read X) (n k : ℕ)
    (before : List X) (bytes : List ℕ) (whole : Read (List X))
    → k < n
    → items_at read (n - k) before bytes ≡ whole → (d : ModuleFault) → read before bytes ≡ Err d → whole ≡ Err d
items_at-stops {X} read n k before bytes whole below e d r =
    let left : n - k ≡ suc (n - (k + 1)) = omega arith in
    sym e
    ∙ (ap (λ (j : ℕ). items_at read j before bytes) left
    ∙ ap (λ (o : Read X). and_then o (λ (y : X × List ℕ). items_at read (n - (k + 1)) (before ++ y.0 ∷ []) y.1)) r)

-- behind the last item
pub items_at-ends : {X : Type 0} (read : List X → List ℕ → Read X) (n k : ℕ)
    (before : List X) (bytes : List ℕ) (whole : Read (List X))
    → n ≤ k
    → items_at read (n - k) before bytes ≡ whole → whole ≡ Ok (before, bytes)
items_at-ends read n k before bytes whole past e =
    let none : n - k ≡ 0 = omega arith in
    sym e ∙ ap (λ (j : ℕ). items_at read j before bytes) none
