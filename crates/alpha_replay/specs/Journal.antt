-- What a journal is made of, which journals are good, and the one spelling of each.
use Rattle.std.specs.Prelude.{ℕ, ◌≤◌, false, List, [], ◌∷◌, ◌++◌, length, All}
use Rattle.std.specs.List.{concat, flat_map}
use Rattle.alpha_words.specs.declared.Completion.{Completion}
use Rattle.alpha_words.specs.declared.Completion.TheVariants.{Wrap, Saturate, Stop}
use Rattle.alpha_image.specs.Layout.{quadword, longword}
use Rattle.alpha_image.specs.Parts.{IsByte}
use Rattle.alpha_replay.specs.declared.ending.Ending.{Ending}
use Rattle.alpha_replay.specs.declared.item.Item.{Item}
use Rattle.alpha_replay.specs.Endings.{FitsEnding, ending_kind, ending_first, ending_second}
use Rattle.alpha_replay.specs.Items.{item_bytes, units_of, FitsItem, AreMerged}

-- The completion of the run's reports, how it ended, the bytes that it took, the bytes that it put, and its steps.
pub record Parts : Type 0 where
  pub completion : Completion
  pub ending : Ending
  pub input : List ℕ
  pub output : List ℕ
  pub items : List Item

abbrev pub parts : Completion → Ending → List ℕ → List ℕ → List Item → Parts
parts completion ending input output items = record {
  completion = completion;
  ending = ending;
  input = input;
  output = output;
  items = items;
}

-- how many bytes of input, and of output, a journal has at most
abbrev pub most_bytes : ℕ
most_bytes = 8388608

abbrev pub most_items : ℕ
most_items = 1048576

abbrev pub most_units : ℕ
most_units = 1000000000

-- a good journal
pub record IsJournal (p : Parts) : Type 0 where
  pub ending : FitsEnding p.ending
  pub input : All IsByte p.input
  pub output : All IsByte p.output
  pub items : All FitsItem p.items
  pub merged : AreMerged false p.items
  pub few_input : length p.input ≤ most_bytes
  pub few_output : length p.output ≤ most_bytes
  pub few_items : length p.items ≤ most_items
  pub few_units : units_of p.items ≤ most_units

-- `ALPHAJR1`
abbrev pub magic : List ℕ
magic = 65 ∷ 76 ∷ 80 ∷ 72 ∷ 65 ∷ 74 ∷ 82 ∷ 49 ∷ []

abbrev pub completion_number : Completion → ℕ
completion_number Wrap = 0
completion_number Saturate = 1
completion_number Stop = 2

-- The numbers before the input: completion, kind of the ending, its two numbers, and how many bytes of input, bytes of
-- output and items there are.
pub record Numbers : Type 0 where
  pub completion : ℕ
  pub kind : ℕ
  pub first : ℕ
  pub second : ℕ
  pub input : ℕ
  pub output : ℕ
  pub items : ℕ

abbrev pub numbers : Parts → Numbers
numbers p = record {
  completion = completion_number p.completion;
  kind = ending_kind p.ending;
  first = ending_first p.ending;
  second = ending_second p.ending;
  input = length p.input;
  output = length p.output;
  items = length p.items;
}

-- the 38 bytes before the input
unfoldable pub header_bytes : Numbers → List ℕ
header_bytes n =
    concat
    (magic ∷ (n.completion ∷ n.kind ∷ []) ∷ quadword n.first ∷ quadword n.second
    ∷ longword n.input ∷ longword n.output ∷ longword n.items ∷ [])

-- the front, the input, the output and the items
unfoldable pub spelling : Parts → List ℕ
spelling p = header_bytes (numbers p) ++ (p.input ++ (p.output ++ flat_map item_bytes p.items))
