-- Searches in trees, and what a filled slot changes of them.
use Rattle.std.proofs.lemmas.Bool.{eqb-true}
use Rattle.std.proofs.Common.{◌≡◌, ℕ, zero, suc, ◌+◌, ◌-◌, ◌*◌, ◌/◌, ◌%◌, ◌^◌, ◌<◌, Bool, true, false, nat_eq}
use Rattle.std.proofs.Common.{if◌then◌else◌, refl, ap, sym, subst, ◌∙◌, arith}
use Rattle.alpha_names.specs.declared.tree.Slot.{Slot}
use Rattle.alpha_names.specs.declared.tree.Look.{Look}
use Rattle.alpha_names.specs.declared.tree.Look.TheVariants.{Free, Taken, Deep}
use Rattle.alpha_names.specs.Tree.{free, slot_of, met, seek, seek_in, HasNumber, Fills}
use Rattle.alpha_names.specs.declared.tree.Entry.{Entry}

pub by_bool : (b : Bool) (P : Type 0) → (b ≡ true → P) → (b ≡ false → P) → P
by_bool true P held fails = held refl
by_bool false P held fails = fails refl

pub not_both : (b : Bool) → b ≡ true → b ≡ false → ⊥
not_both b held fails = grind arith

abbrev pub is_free : Look → Bool
is_free (Free place) = true
is_free (Taken number) = false
is_free Deep = false

abbrev place_of : Look → ℕ
place_of (Free place) = place
place_of (Taken number) = 0
place_of Deep = 0

-- one level of a search
pub seek_next : (slot : ℕ → Slot) (mark n m path place : ℕ) → n ≡ suc m →
    seek slot mark n path place
    ≡ met (slot place) mark place (seek slot mark m (path / 2) ((slot place).below + path % 2))
unfolding seek
seek_next slot mark n m path place e = ap (λ (k : ℕ). seek slot mark k path place) e

pub met_free : (s : Slot) (mark place : ℕ) (further : Look) → s.below ≡ 0 → met s mark place further ≡ Free place
met_free s mark place further e =
    ap (λ (b : ℕ). if nat_eq b 0 then Free place else (if nat_eq s.mark mark then Taken s.number else further)) e

-- where all slots are free
pub seek_in-all_free : (slot : ℕ → Slot) (hash : ℕ) → ((place : ℕ) → slot place ≡ free)
    → seek_in slot hash ≡ Free (hash / 2 ^ 52)
unfolding seek_in
seek_in-all_free slot hash all =
    let place = hash / 2 ^ 52 in
    seek_next slot (hash % 2 ^ 32) 20 19 (hash / 2 ^ 32) place refl
    ∙ met_free (slot place) (hash % 2 ^ 32) place _ (ap (λ (s : Slot). s.below) (all place))

-- what further levels find decides, or it doesn't matter
otherwise : (b c : Bool) (p q x y l : Look) → b ≡ false → (x ≡ l → y ≡ l) →
    (if b then p else (if c then q else x)) ≡ l → (if b then p else (if c then q else y)) ≡ l
otherwise true c p q x y l fails more e = absurd (not_both true refl fails)
otherwise false true p q x y l fails more e = e
otherwise false false p q x y l fails more e = more e

at_first : (b c : Bool) (p q x l : Look) → b ≡ true → (if b then p else (if c then q else x)) ≡ l → p ≡ l
at_first true c p q x l held e = e
at_first false c p q x l held e = absurd (not_both false held refl)

search-skips : (b c : Bool) (p q x l : Look) → b ≡ false → c ≡ true → (if b then p else (if c then q else x)) ≡ l
    → q ≡ l
search-skips b c p q x l fails held e =
    sym (ap (λ (v : Bool). if v then p else (if c then q else x)) fails ∙ ap (λ (v : Bool). if v then q else x) held)
    ∙ e

comes_to : (b c : Bool) (p q x : Look) → b ≡ false → c ≡ false → (if b then p else (if c then q else x)) ≡ x
comes_to b c p q x fails differs =
    ap (λ (v : Bool). if v then p else (if c then q else x)) fails ∙ ap (λ (v : Bool). if v then q else x) differs

search-goes : (b c : Bool) (p q x l : Look) → b ≡ false → c ≡ false → (if b then p else (if c then q else x)) ≡ l
    → x ≡ l
search-goes b c p q x l fails differs e = sym (comes_to b c p q x fails differs) ∙ e

taken_here : (s : Slot) (mark place number : ℕ) (further : Look) → s.mark ≡ mark → s.number ≡ number → 0 < s.below
    → met s mark place further ≡ Taken number
taken_here s mark place number further m k below =
    let fails : nat_eq s.below 0 ≡ false = grind arith in
    let held : nat_eq s.mark mark ≡ true = grind arith in
    ap (λ (v : Bool). if v then Free place else (if nat_eq s.mark mark then Taken s.number else further)) fails
    ∙ (ap (λ (v : Bool). if v then Taken s.number else further) held ∙ ap Taken k)

-- a slot that isn't free isn't the one that is filled
other_slot : (f g : ℕ → Slot) (place at : ℕ) → (f place).below ≡ 0
    → ((other : ℕ) → nat_eq other place ≡ false → g other ≡ f other) →
    nat_eq (f at).below 0 ≡ false → g at ≡ f at
other_slot f g place at free same fails =
    by_bool (nat_eq at place) (g at ≡ f at)
    (λ held. absurd (not_both (nat_eq (f at).below 0)
    (ap (λ (b : ℕ). nat_eq b 0) (ap (λ (k : ℕ). (f k).below) (eqb-true at place held) ∙ free)) fails))
    (λ differs. same at differs)

-- what isn't a free slot is found again
pub seek-kept : (f g : ℕ → Slot) (place : ℕ) → (f place).below ≡ 0
    → ((other : ℕ) → nat_eq other place ≡ false → g other ≡ f other) →
    (mark levels path at : ℕ) (l : Look) → is_free l ≡ false → seek f mark levels path at ≡ l
    → seek g mark levels path at ≡ l
unfolding seek
seek-kept f g place free same mark zero path at l taken e = e
seek-kept f g place free same mark (suc n) path at l taken e =
    by_bool (nat_eq (f at).below 0) (seek g mark (suc n) path at ≡ l)
    (λ held. absurd (not_both (is_free l) (sym (ap is_free (at_first (nat_eq (f at).below 0) (nat_eq (f at).mark mark)
    (Free at) (Taken (f at).number) (seek f mark n (path / 2) ((f at).below + path % 2)) l held e))) taken))
    (λ fails. ap (λ (s : Slot). met s mark at (seek g mark n (path / 2) (s.below + path % 2)))
    (other_slot f g place at free same fails)
    ∙ otherwise (nat_eq (f at).below 0) (nat_eq (f at).mark mark) (Free at) (Taken (f at).number)
    (seek f mark n (path / 2) ((f at).below + path % 2)) (seek g mark n (path / 2) ((f at).below + path % 2)) l fails
    (λ more. seek-kept f g place free same mark n (path / 2) ((f at).below + path % 2) l taken more) e)

-- the slot that a search finds free is so
pub seek-free_slot : (f : ℕ → Slot) (place mark levels path at : ℕ) → seek f mark levels path at ≡ Free place
    → (f place).below ≡ 0
unfolding seek
seek-free_slot f place mark zero path at e = absurd (not_both (is_free (Free place)) refl (ap is_free (sym e)))
seek-free_slot f place mark (suc n) path at e =
    by_bool (nat_eq (f at).below 0) ((f place).below ≡ 0)
    (λ held. let here : at ≡ place = ap place_of (at_first (nat_eq (f at).below 0) (nat_eq (f at).mark mark) (Free at)
    (Taken (f at).number) (seek f mark n (path / 2) ((f at).below + path % 2)) (Free place) held e) in
    ap (λ (k : ℕ). (f k).below) (sym here) ∙ eqb-true (f at).below 0 held)
    (λ fails. by_bool (nat_eq (f at).mark mark) ((f place).below ≡ 0)
    (λ same. absurd (not_both (is_free (Free place)) refl
    (ap is_free (sym (search-skips (nat_eq (f at).below 0) (nat_eq (f at).mark mark) (Free at) (Taken (f at).number)
    (seek f mark n (path / 2) ((f at).below + path % 2)) (Free place) fails same e)))))
    (λ differs. seek-free_slot f place mark n (path / 2) ((f at).below + path % 2)
    (search-goes (nat_eq (f at).below 0) (nat_eq (f at).mark mark) (Free at) (Taken (f at).number)
    (seek f mark n (path / 2) ((f at).below + path % 2)) (Free place) fails differs e)))

-- a search that found a slot free finds the number that it was filled with
pub seek-filled : (f g : ℕ → Slot) (place number hash : ℕ) → (f place).below ≡ 0 → Fills place hash number f g →
    (levels path at : ℕ) → seek f (hash % 2 ^ 32) levels path at ≡ Free place
    → seek g (hash % 2 ^ 32) levels path at ≡ Taken number
unfolding seek
seek-filled f g place number hash free fills zero path at e =
    absurd (not_both (is_free (Free place)) refl (ap is_free (sym e)))
seek-filled f g place number hash free fills (suc n) path at e =
    let mark = hash % 2 ^ 32 in
    let further = seek f mark n (path / 2) ((f at).below + path % 2) in
    by_bool (nat_eq (f at).below 0) (seek g mark (suc n) path at ≡ Taken number)
    (λ held. let here : at ≡ place = ap place_of (at_first (nat_eq (f at).below 0) (nat_eq (f at).mark mark) (Free at)
    (Taken (f at).number) further (Free place) held e) in
    ap (λ (s : Slot). met s mark at (seek g mark n (path / 2) (s.below + path % 2))) (ap g here)
    ∙ taken_here (g place) mark at number
    (seek g mark n (path / 2) ((g place).below + path % 2)) fills.0.0 fills.0.1 fills.0.2)
    (λ fails. by_bool (nat_eq (f at).mark mark) (seek g mark (suc n) path at ≡ Taken number)
    (λ same. absurd (not_both (is_free (Free place)) refl (ap is_free (sym (search-skips (nat_eq (f at).below 0)
    (nat_eq (f at).mark mark) (Free at) (Taken (f at).number) further (Free place) fails same e)))))
    (λ differs. ap (λ (s : Slot). met s mark at (seek g mark n (path / 2) (s.below + path % 2)))
    (other_slot f g place at free fills.1 fails)
    ∙ (comes_to (nat_eq (f at).below 0) (nat_eq (f at).mark mark) (Free at) (Taken (f at).number)
    (seek g mark n (path / 2) ((f at).below + path % 2)) fails differs
    ∙ seek-filled f g place number hash free fills n (path / 2) ((f at).below + path % 2)
    (search-goes (nat_eq (f at).below 0) (nat_eq (f at).mark mark) (Free at) (Taken (f at).number) further
    (Free place) fails differs e))))

pub seek_in-seek : (slot : ℕ → Slot) (hash : ℕ)
    → seek_in slot hash ≡ seek slot (hash % 2 ^ 32) 20 (hash / 2 ^ 32) (hash / 2 ^ 52)
unfolding seek_in
seek_in-seek slot hash = refl

-- what was found in a tree is found when a slot is filled, and the number in that slot is found too
pub seek_in-kept : (f g : ℕ → Slot) (place number hash : ℕ) → seek_in f hash ≡ Free place
    → Fills place hash number f g →
    (other : ℕ) (l : Look) → is_free l ≡ false → seek_in f other ≡ l → seek_in g other ≡ l
seek_in-kept f g place number hash found fills other l taken e =
    let free : (f place).below ≡ 0 =
    seek-free_slot f place (hash % 2 ^ 32) 20 (hash / 2 ^ 32) (hash / 2 ^ 52) (sym (seek_in-seek f hash) ∙ found) in
    seek_in-seek g other
    ∙ seek-kept f g place free fills.1 (other % 2 ^ 32) 20 (other / 2 ^ 32) (other / 2 ^ 52) l taken
    (sym (seek_in-seek f other) ∙ e)

pub seek_in-filled : (f g : ℕ → Slot) (place number hash : ℕ) → seek_in f hash ≡ Free place
    → Fills place hash number f g
    → seek_in g hash ≡ Taken number
seek_in-filled f g place number hash found fills =
    let free : (f place).below ≡ 0 =
    seek-free_slot f place (hash % 2 ^ 32) 20 (hash / 2 ^ 32) (hash / 2 ^ 52) (sym (seek_in-seek f hash) ∙ found) in
    seek_in-seek g hash
    ∙ seek-filled f g place number hash free fills 20 (hash / 2 ^ 32) (hash / 2 ^ 52)
    (sym (seek_in-seek f hash) ∙ found)

pub met_taken : (s : Slot) (mark place : ℕ) (further : Look) → (s.below ≡ 0 → ⊥) → s.mark ≡ mark
    → met s mark place further ≡ Taken s.number
met_taken s mark place further below same = taken_here s mark place s.number further same refl (omega (arith, below))

pub met_else : (s : Slot) (mark place : ℕ) (further : Look) → (s.below ≡ 0 → ⊥) → (s.mark ≡ mark → ⊥)
    → met s mark place further ≡ further
met_else s mark place further below differs =
    comes_to (nat_eq s.below 0) (nat_eq s.mark mark) (Free place) (Taken s.number) further
    (by_bool (nat_eq s.below 0) (nat_eq s.below 0 ≡ false) (λ held. absurd (below (eqb-true s.below 0 held))) (λ e. e))
    (by_bool (nat_eq s.mark mark) (nat_eq s.mark mark ≡ false) (λ held. absurd (differs (eqb-true s.mark mark held)))
    (λ e. e))

pub seek-zero : (slot : ℕ → Slot) (mark n path place : ℕ) → n ≡ 0 → seek slot mark n path place ≡ Deep
unfolding seek
seek-zero slot mark n path place e = ap (λ (k : ℕ). seek slot mark k path place) e

-- the slot of an entry that isn't free
pub has_number : (entry : Entry) (hash number : ℕ) → entry.mark ≡ hash % 2 ^ 32 → entry.next ≡ number + 1
    → HasNumber (slot_of entry) hash number
has_number entry hash number mark next =
    let full : Slot = record { mark = entry.mark; number = entry.next - 1; below = 4096 + 2 * (entry.next - 1) } in
    let fails : nat_eq entry.next 0 ≡ false = grind arith in
    let is : slot_of entry ≡ full = ap (λ (b : Bool). if b then free else full) fails in
    let less : entry.next - 1 ≡ number = omega arith in (
      ap (λ (s : Slot). s.mark) is ∙ mark,
      ap (λ (s : Slot). s.number) is ∙ less,
      subst (λ (s : Slot). 0 < s.below) (sym is) (omega arith),
    )
