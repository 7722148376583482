-- Bytes without a fault are the spelling of the good journal that they give, and the spelling of a good journal has no
-- fault and gives it again.
use Rattle.std.proofs.Common.{◌≡◌, ◌≢◌, ℕ, ◌+◌, ◌-◌, ◌≤◌, true, false, eqb, leb, nat_eq, List, [], ◌++◌, length, take}
use Rattle.std.proofs.Common.{drop, None, Result, Ok, Err, refl, sym, ap, ◌∙◌, arith}
use Rattle.std.specs.Prelude.{All}
use Rattle.std.specs.List.{flat_map, starts_with}
use Rattle.std.specs.Option.{option_map}
use Rattle.std.proofs.lemmas.Bool.{eqb-true, leb-true, le-leb}
use Rattle.std.proofs.lemmas.List.{append-nil, length-append, length-take, length-drop, take-append-drop, take_at}
use Rattle.std.proofs.lemmas.List.{drop_at, drop-drop, nil_from_length}
use Rattle.std.proofs.lemmas.List.Elements.{All-from_get_or}
use Rattle.alpha_image.specs.Parts.{IsByte}
use Rattle.alpha_image.specs.FirstOf.{unless}
use Rattle.alpha_image.proofs.LittleEndianNumbers.{IsBytes, IsBytes-take, IsBytes-drop, quadword_at-lt}
use Rattle.alpha_image.proofs.FieldRules.{option_or-both_none, unless-none}
use Rattle.alpha_image.proofs.CodeWords.{option_map-none}
use Rattle.alpha_replay.specs.declared.fault.JournalFault.{JournalFault}
use Rattle.alpha_replay.specs.declared.fault.JournalFault.TheVariants.{Short, Magic, Field, Item, Units, Rest, NoMemory}
use Rattle.alpha_replay.specs.declared.item.Item as items
use Rattle.alpha_replay.specs.Endings.{FitsEnding, ending_in}
use Rattle.alpha_replay.specs.Items.{item_bytes, units_of, Parsed, parsed}
use Rattle.alpha_replay.specs.Journal.{Parts, IsJournal, Numbers, numbers, parts, magic, header_bytes, spelling}
use Rattle.alpha_replay.specs.Journal.{most_units}
use Rattle.alpha_replay.specs.Reading.{numbers_in, items_at, items_in, items_or_none, completion_in, parts_with}
use Rattle.alpha_replay.specs.Reading.{parts_of}
use Rattle.alpha_replay.specs.JournalFault.{bad_field, header_fault, items_fault, first_fault, Refuses}
use Rattle.alpha_replay.specs.Scanned.{GivesItems}
use Rattle.alpha_replay.proofs.ItemRows.{AreRead, parsed-AreRead, parsed-items}
use Rattle.alpha_replay.proofs.HeaderFields.{FieldsFit, bad_field-FieldsFit, FieldsFit-bad_field, number-completion_in}
use Rattle.alpha_replay.proofs.HeaderFields.{completion_in-number, completion_number-lt, ending_in-HasNumbers}
use Rattle.alpha_replay.proofs.HeaderFields.{ending_in-numbers, ending_kind-lt, unused_are_zero-ending}
use Rattle.alpha_replay.proofs.HeaderBytes.{starts_magic, starts_with-journal_header, length-journal_header, HeaderFits}
use Rattle.alpha_replay.proofs.HeaderBytes.{numbers_in-journal_header}
use Rattle.alpha_replay.proofs.HeaderBytes.{journal_header-numbers_in}

-- what bytes have that have no fault before their items
pub record HasHeader (bytes : List ℕ) : Type 0 where
  pub starts : bytes ≡ magic ++ drop 8 bytes
  pub fields : FieldsFit (numbers_in bytes)
  pub long : 38 ≤ length bytes
  pub whole : items_at (numbers_in bytes) ≤ length bytes

pub header_fault-HasHeader : (bytes : List ℕ) → header_fault bytes ≡ None → HasHeader bytes
unfolding header_fault
header_fault-HasHeader bytes e =
    let a = option_or-both_none (unless (leb 38 (length bytes)) (Short (length bytes))) _ e in
    let b = option_or-both_none (unless (starts_with nat_eq bytes magic) Magic) _ a.1 in
    let c = option_or-both_none (option_map Field (bad_field (numbers_in bytes))) _ b.1 in
    let d =
    option_or-both_none (unless (leb (items_at (numbers_in bytes)) (length bytes)) (Short (length bytes))) _ c.1 in
    record {
      starts = starts_magic bytes (unless-none _ _ b.0);
      fields = bad_field-FieldsFit (numbers_in bytes) (option_map-none Field _ c.0);
      long = leb-true _ _ (unless-none _ _ a.0);
      whole = leb-true _ _ (unless-none _ _ d.0);
    }

-- items without a fault
pub record HasItems (bytes : List ℕ) (p : Parsed) : Type 0 where
  pub is : items_in bytes ≡ Ok p
  pub few : units_of p.items ≤ most_units
  pub none_behind : p.rest ≡ []

items_from : (size : ℕ) (bytes : List ℕ) (r : Result Parsed ℕ) → items_in bytes ≡ r → items_fault size r ≡ None
    → (p : Parsed) × HasItems bytes p
items_from size bytes (Err n) e none = absurd cc
items_from size bytes (Ok p) e none =
    let a = option_or-both_none (unless (leb (units_of p.items) most_units) Units) _ none in
    let b = option_or-both_none (unless (eqb (length p.rest) 0) (Rest (size - length p.rest))) _ a.1 in (
      p,
      record {
        is = e;
        few = leb-true _ _ (unless-none _ _ a.0);
        none_behind = nil_from_length p.rest (eqb-true _ _ (unless-none _ _ b.0));
      },
    )

pub items_fault-HasItems : (bytes : List ℕ) → items_fault (length bytes) (items_in bytes) ≡ None
    → (p : Parsed) × HasItems bytes p
items_fault-HasItems bytes none = items_from (length bytes) bytes (items_in bytes) refl none

-- what is read of those items
read_items : (bytes : List ℕ) (p : Parsed) → IsBytes bytes → HasItems bytes p
    → AreRead (numbers_in bytes).items false (drop (items_at (numbers_in bytes)) bytes) p
unfolding items_in
read_items bytes p fits has =
    parsed-AreRead (numbers_in bytes).items 0 false (drop (items_at (numbers_in bytes)) bytes) p
    (IsBytes-drop (items_at (numbers_in bytes)) bytes fits) has.is

are_items : (bytes : List ℕ) (p : Parsed) → HasItems bytes p → items_or_none (items_in bytes) ≡ p.items
are_items bytes p has = ap items_or_none has.is

all_bytes : (bytes : List ℕ) → IsBytes bytes → All IsByte bytes
all_bytes bytes fits = All-from_get_or IsByte bytes 0 (λ i _. fits i)

FieldsFit-numbers_in : (bytes : List ℕ) → IsBytes bytes → FieldsFit (numbers_in bytes)
    → FitsEnding (ending_in (numbers_in bytes).kind (numbers_in bytes).first (numbers_in bytes).second)
unfolding numbers_in
FieldsFit-numbers_in bytes fits fields =
    let n = numbers_in bytes in
    let has = ending_in-HasNumbers n.kind n.first n.second fields.kind fields.unused in
    record {
      first = rw has.first_is (quadword_at-lt 10 bytes fits);
      second = rw has.second_is (quadword_at-lt 18 bytes fits);
    }

length-input : (bytes : List ℕ) → HasHeader bytes
    → length (take (numbers_in bytes).input (drop 38 bytes)) ≡ (numbers_in bytes).input
length-input bytes front =
    omega (arith, length-take (numbers_in bytes).input (drop 38 bytes), length-drop 38 bytes, front.whole)

length-output : (bytes : List ℕ) → HasHeader bytes
    → length (take (numbers_in bytes).output (drop (38 + (numbers_in bytes).input) bytes)) ≡ (numbers_in bytes).output
length-output bytes front =
    omega (
      arith,
      length-take (numbers_in bytes).output (drop (38 + (numbers_in bytes).input) bytes),
      length-drop (38 + (numbers_in bytes).input) bytes,
      front.whole,
    )

-- bytes without a fault give a good journal
pub IsJournal-parts_of : (bytes : List ℕ) (p : Parsed) → IsBytes bytes → HasHeader bytes → HasItems bytes p
    → IsJournal (parts_of bytes)
IsJournal-parts_of bytes p fits front has =
    let n = numbers_in bytes in
    let read = read_items bytes p fits has in
    rw (are_items bytes p has) record {
      ending = FieldsFit-numbers_in bytes fits front.fields;
      input = all_bytes _ (IsBytes-take n.input (drop 38 bytes) (IsBytes-drop 38 bytes fits));
      output = all_bytes _ (IsBytes-take n.output (drop (38 + n.input) bytes) (IsBytes-drop (38 + n.input) bytes fits));
      items = read.fits;
      merged = read.merged;
      few_input = omega (arith, length-input bytes front, front.fields.input);
      few_output = omega (arith, length-output bytes front, front.fields.output);
      few_items = omega (arith, read.all, front.fields.items);
      few_units = has.few;
    }

numbers-parts_of : (bytes : List ℕ) (p : Parsed) → IsBytes bytes → HasHeader bytes → HasItems bytes p
    → numbers (parts_of bytes) ≡ numbers_in bytes
numbers-parts_of bytes p fits front has =
    let n = numbers_in bytes in
    let ending = ending_in-HasNumbers n.kind n.first n.second front.fields.kind front.fields.unused in
    let read = read_items bytes p fits has in
    rw (
      are_items bytes p has,
      number-completion_in n.completion front.fields.completion,
      ending.kind_is,
      ending.first_is,
      ending.second_is,
      length-input bytes front,
      length-output bytes front,
      read.all,
    ) refl

-- and are its spelling
pub journal_spelling-parts_of : (bytes : List ℕ) (p : Parsed) → IsBytes bytes → HasHeader bytes → HasItems bytes p
    → bytes ≡ spelling (parts_of bytes)
unfolding spelling
journal_spelling-parts_of bytes p fits whole has =
    let n = numbers_in bytes in
    let read = read_items bytes p fits has in
    let input = take n.input (drop 38 bytes) in
    let output = take n.output (drop (38 + n.input) bytes) in
    let behind : drop 38 bytes ≡ input ++ drop (38 + n.input) bytes =
    sym (take-append-drop n.input (drop 38 bytes)) ∙ ap (λ (t : List ℕ). input ++ t) (drop-drop n.input 38 bytes) in
    let at : (38 + n.input) + n.output ≡ items_at n = omega arith in
    let later : drop (38 + n.input) bytes ≡ output ++ drop (items_at n) bytes =
    sym (take-append-drop n.output (drop (38 + n.input) bytes))
    ∙ ap (λ (t : List ℕ). output ++ t) (drop-drop n.output (38 + n.input) bytes ∙ ap (λ (k : ℕ). drop k bytes) at) in
    let last : drop (items_at n) bytes ≡ flat_map item_bytes p.items =
    read.is ∙ (ap (λ (t : List ℕ). flat_map item_bytes p.items ++ t) has.none_behind
    ∙ append-nil (flat_map item_bytes p.items)) in
    journal_header-numbers_in bytes fits whole.long whole.starts
    ∙ (ap (λ (t : List ℕ). header_bytes n ++ t)
    (behind ∙ ap (λ (t : List ℕ). input ++ t) (later ∙ ap (λ (t : List ℕ). output ++ t) last))
    ∙ (ap (λ (is : List items.Item). header_bytes n ++ (input ++ (output ++ flat_map item_bytes is)))
    (sym (are_items bytes p has))
    ∙ ap
    (λ (m : Numbers). header_bytes m ++ (input ++ (output ++ flat_map item_bytes (items_or_none (items_in bytes)))))
    (sym (numbers-parts_of bytes p fits whole has))))

pub journal-no_fault : (bytes : List ℕ) → IsBytes bytes → first_fault bytes ≡ None
    → IsJournal (parts_of bytes) × (bytes ≡ spelling (parts_of bytes))
unfolding first_fault
journal-no_fault bytes fits none =
    let a = option_or-both_none (header_fault bytes) _ none in
    let b = option_or-both_none (items_fault (length bytes) (items_in bytes)) _ a.1 in
    let front = header_fault-HasHeader bytes a.0 in
    let has = items_fault-HasItems bytes b.0 in
    (IsJournal-parts_of bytes has.0 fits front has.1, journal_spelling-parts_of bytes has.0 fits front has.1)

-- ---- the other way round

HeaderFits-numbers : (p : Parts) → IsJournal p → HeaderFits (numbers p)
HeaderFits-numbers p good =
    record {
      first = good.ending.first;
      second = good.ending.second;
      input = omega (arith, good.few_input);
      output = omega (arith, good.few_output);
      items = omega (arith, good.few_items);
    }

pub numbers_in-spelling : (p : Parts) → IsJournal p → numbers_in (spelling p) ≡ numbers p
unfolding spelling
numbers_in-spelling p good =
    numbers_in-journal_header (numbers p) (p.input ++ (p.output ++ flat_map item_bytes p.items))
    (HeaderFits-numbers p good)

FieldsFit-numbers : (p : Parts) → IsJournal p → FieldsFit (numbers p)
FieldsFit-numbers p good =
    record {
      completion = completion_number-lt p.completion;
      kind = ending_kind-lt p.ending;
      unused = unused_are_zero-ending p.ending;
      input = good.few_input;
      output = good.few_output;
      items = good.few_items;
    }

length-spelling : (p : Parts) → length (spelling p) ≡ items_at (numbers p) + length (flat_map item_bytes p.items)
unfolding spelling
length-spelling p =
    omega (
      arith,
      length-append (header_bytes (numbers p)) (p.input ++ (p.output ++ flat_map item_bytes p.items)),
      length-journal_header (numbers p),
      length-append p.input (p.output ++ flat_map item_bytes p.items),
      length-append p.output (flat_map item_bytes p.items),
    )

pub header_fault-spelling : (p : Parts) → IsJournal p → header_fault (spelling p) ≡ None
unfolding header_fault spelling
header_fault-spelling p good =
    let t = spelling p in
    let rest = p.input ++ (p.output ++ flat_map item_bytes p.items) in
    let long = le-leb 38 (length t) (omega (arith, length-spelling p)) in
    let bad : bad_field (numbers_in t) ≡ None =
    ap bad_field (numbers_in-spelling p good) ∙ FieldsFit-bad_field (numbers p) (FieldsFit-numbers p good) in
    let whole : leb (items_at (numbers_in t)) (length t) ≡ true =
    ap (λ (n : Numbers). leb (items_at n) (length t)) (numbers_in-spelling p good)
    ∙ le-leb (items_at (numbers p)) (length t) (omega (arith, length-spelling p)) in
    rw (long, starts_with-journal_header (numbers p) rest, bad, whole) refl

drop-header_bytes : (p : Parts) → drop 38 (spelling p) ≡ p.input ++ (p.output ++ flat_map item_bytes p.items)
unfolding spelling
drop-header_bytes p = drop_at (header_bytes (numbers p)) _ 38 (length-journal_header (numbers p))

drop-input : (p : Parts) → drop (38 + length p.input) (spelling p) ≡ p.output ++ flat_map item_bytes p.items
drop-input p =
    sym (drop-drop (length p.input) 38 (spelling p))
    ∙ (ap (drop (length p.input)) (drop-header_bytes p) ∙ drop_at p.input _ (length p.input) refl)

drop-output : (p : Parts) → drop (items_at (numbers p)) (spelling p) ≡ flat_map item_bytes p.items
drop-output p =
    let at : items_at (numbers p) ≡ (38 + length p.input) + length p.output = omega arith in
    ap (λ (k : ℕ). drop k (spelling p)) at
    ∙ (sym (drop-drop (length p.output) (38 + length p.input) (spelling p))
    ∙ (ap (drop (length p.output)) (drop-input p) ∙ drop_at p.output _ (length p.output) refl))

pub items_in-spelling : (p : Parts) → IsJournal p → items_in (spelling p) ≡ Ok (record { items = p.items; rest = [] })
unfolding items_in
items_in-spelling p good =
    ap (λ (n : Numbers). parsed n.items 0 false (drop (items_at n) (spelling p))) (numbers_in-spelling p good)
    ∙ (ap (λ (t : List ℕ). parsed (length p.items) 0 false t)
    (drop-output p ∙ sym (append-nil (flat_map item_bytes p.items)))
    ∙ parsed-items p.items [] 0 false good.items good.merged)

pub journal_first_fault-spelling : (p : Parts) → IsJournal p → first_fault (spelling p) ≡ None
unfolding first_fault
journal_first_fault-spelling p good =
    let few = le-leb (units_of p.items) most_units good.few_units in
    rw (header_fault-spelling p good, items_in-spelling p good, few) refl

pub journal_parts_of-spelling : (p : Parts) → IsJournal p → parts_of (spelling p) ≡ p
journal_parts_of-spelling p good =
    let t = spelling p in
    ap (λ (n : Numbers). parts_with n (items_or_none (items_in t)) t) (numbers_in-spelling p good)
    ∙ (ap (λ (r : Result Parsed ℕ). parts_with (numbers p) (items_or_none r) t) (items_in-spelling p good)
    ∙ rw (
      completion_in-number p.completion,
      ending_in-numbers p.ending,
      drop-header_bytes p,
      drop-input p,
      take_at p.input (p.output ++ flat_map item_bytes p.items) (length p.input) refl,
      take_at p.output (flat_map item_bytes p.items) (length p.output) refl,
    ) refl)

pub journal_spelling-injective : (p q : Parts) → IsJournal p → IsJournal q → spelling p ≡ spelling q → p ≡ q
journal_spelling-injective p q good other e =
    sym (journal_parts_of-spelling p good) ∙ (ap parts_of e ∙ journal_parts_of-spelling q other)

-- ---- refusals

-- a fault of the front is the first fault
pub Refuses-header_bytes : (e : JournalFault) (bytes : List ℕ) → e ≢ NoMemory → Refuses e (header_fault bytes)
    → Refuses e (first_fault bytes)
unfolding first_fault
Refuses-header_bytes (Short n) bytes not h = rw h refl
Refuses-header_bytes Magic bytes not h = rw h refl
Refuses-header_bytes (Field n) bytes not h = rw h refl
Refuses-header_bytes (Item n) bytes not h = rw h refl
Refuses-header_bytes Units bytes not h = rw h refl
Refuses-header_bytes (Rest n) bytes not h = rw h refl
Refuses-header_bytes NoMemory bytes not h = absurd (not refl)

-- a fault of the items is it where the front has none
pub Refuses-items : (e : JournalFault) (bytes : List ℕ) → e ≢ NoMemory → header_fault bytes ≡ None
    → Refuses e (items_fault (length bytes) (items_in bytes)) → Refuses e (first_fault bytes)
unfolding first_fault
Refuses-items (Short n) bytes not none h = rw (none, h) refl
Refuses-items Magic bytes not none h = rw (none, h) refl
Refuses-items (Field n) bytes not none h = rw (none, h) refl
Refuses-items (Item n) bytes not none h = rw (none, h) refl
Refuses-items Units bytes not none h = rw (none, h) refl
Refuses-items (Rest n) bytes not none h = rw (none, h) refl
Refuses-items NoMemory bytes not none h = absurd (not refl)

pub fault-none : (bytes : List ℕ) → header_fault bytes ≡ None → items_fault (length bytes) (items_in bytes) ≡ None
    → first_fault bytes ≡ None
unfolding first_fault
fault-none bytes front items = rw (front, items) refl

-- ---- what is read in pieces

-- input, output and what stands behind them, with these numbers
pub record SplitJournal (bytes : List ℕ) (n : Numbers) (input output rest : List ℕ) : Type 0 where
  pub input_is : input ≡ take n.input (drop 38 bytes)
  pub output_is : output ≡ take n.output (drop (38 + n.input) bytes)
  pub rest_is : rest ≡ drop (items_at n) bytes

pub cut_front : (bytes : List ℕ) (n : Numbers) (input behind output rest : List ℕ)
    → input ≡ take n.input (drop 38 bytes) → behind ≡ drop n.input (drop 38 bytes) → output ≡ take n.output behind
    → rest ≡ drop n.output behind → SplitJournal bytes n input output rest
cut_front bytes n input behind output rest a b c d =
    let later : behind ≡ drop (38 + n.input) bytes = b ∙ drop-drop n.input 38 bytes in
    let at : (38 + n.input) + n.output ≡ items_at n = omega arith in
    record {
      input_is = a;
      output_is = c ∙ ap (take n.output) later;
      rest_is =
          d ∙ (ap (drop n.output) later ∙ (drop-drop n.output (38 + n.input) bytes ∙ ap (λ (k : ℕ). drop k bytes) at));
    }

pub items_in-cut : (bytes : List ℕ) (n : Numbers) (input output rest : List ℕ) → n ≡ numbers_in bytes
    → SplitJournal bytes n input output rest → parsed n.items 0 false rest ≡ items_in bytes
unfolding items_in
items_in-cut bytes n input output rest e cut =
    ap (λ (t : List ℕ). parsed n.items 0 false t) cut.rest_is
    ∙ ap (λ (m : Numbers). parsed m.items 0 false (drop (items_at m) bytes)) e

-- the journal of these pieces is that of the bytes
pub parts-cut : (bytes : List ℕ) (n : Numbers) (input output rest : List ℕ) (is : List items.Item)
    → n ≡ numbers_in bytes → SplitJournal bytes n input output rest → GivesItems (parsed n.items 0 false rest) is
    → parts (completion_in n.completion) (ending_in n.kind n.first n.second) input output is ≡ parts_of bytes
parts-cut bytes n input output rest is e cut gives =
    let same : is ≡ items_or_none (items_in bytes) =
    ap items_or_none (sym gives.1 ∙ items_in-cut bytes n input output rest e cut) in
    rw (cut.input_is, cut.output_is, same) (ap (λ (m : Numbers). parts_with m (items_or_none (items_in bytes)) bytes) e)
