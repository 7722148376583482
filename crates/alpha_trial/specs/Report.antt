-- What a trial writes.
use Rattle.std.specs.Prelude.{ℕ, Bool, is_some, List, [], ◌∷◌, ◌++◌, length, codes, decimal, count_by, None}
use Rattle.std.specs.Option.{option_and_then}
use Rattle.hex.specs.Hex.{encode_lower}
use Rattle.alpha_words.specs.declared.Completion.TheVariants.{Wrap}
use Rattle.alpha_table.specs.Decoded.{decoded}
use Rattle.alpha_table.specs.Columns.{trap_op_of}
use Rattle.alpha_image.specs.Parts.{Parts}
use Rattle.alpha_seq.specs.State.{Program}
use Rattle.alpha_seq.specs.Start.{start}
use Rattle.alpha_seq.specs.Run.{Run, output, after}
use Rattle.alpha_imprecise.specs.Pcg.{pcg_word, seeded}
use Rattle.alpha_imprecise.specs.Run.{seen}
use Rattle.alpha_imprecise.specs.ChosenRun.{ChosenRun, begun, chosen_run, first_words, most_words}
use Rattle.alpha_trial.specs.Words.{trial_image}

-- how many overflows were logged, how many steps or units were made, the bytes put, and how many words were drawn
pub record Tally : Type 0 where
  pub overflows : ℕ
  pub steps : ℕ
  pub output : List ℕ
  pub drawn : ℕ

-- a sequential run draws no word
abbrev pub run_tally : Run → Tally
run_tally r = record { overflows = r.at.state.count; steps = length r.events; output = output r.events; drawn = 0 }

abbrev pub making_tally : ChosenRun → Tally
making_tally k = record {
  overflows = k.run.at.state.count;
  steps = k.run.units;
  output = output (seen k.run.steps);
  drawn = k.count;
}

-- whether a word may trap
abbrev pub is_trigger : ℕ → Bool
is_trigger word = is_some (option_and_then trap_op_of (decoded word))

-- `MODE words W triggers T overflows V steps S result H drawn D`: H has two hexadecimal digits for each byte of the
-- output, all other numbers are decimal
unfoldable pub line : List ℕ → List ℕ → Tally → List ℕ
line mode words t =
    mode ++ codes " words " ++ decimal (length words) ++ codes " triggers " ++ decimal (count_by is_trigger words)
    ++ codes " overflows " ++ decimal t.overflows ++ codes " steps " ++ decimal t.steps
    ++ codes " result " ++ encode_lower t.output ++ codes " drawn " ++ decimal t.drawn ++ 10 ∷ []

-- the program of an image, whose results wrap around
abbrev pub wrapping : Parts → Program
wrapping image = record { image = image; completion = Wrap }

-- the run of so many steps at most, over an empty input
unfoldable pub sequential_run : ℕ → Parts → Run
sequential_run units image = after (wrapping image) (start (wrapping image)) [] units

-- the run of so many units at most, over an empty input, by the words of the chooser that a number seeds
unfoldable pub imprecise_run : ℕ → Parts → ℕ → ChosenRun
imprecise_run units image seed =
    chosen_run (wrapping image)
    (begun (start (wrapping image)) [] None 0 (first_words (most_words units) (pcg_word (seeded seed)))) units

-- both lines, of runs of so many units
unfoldable pub text_within : ℕ → ℕ → List ℕ
text_within units n =
    line (codes "sequential") (trial_image n).words (run_tally (sequential_run units (trial_image n)))
    ++ line (codes "imprecise") (trial_image n).words (making_tally (imprecise_run units (trial_image n) n))

-- what the trial of a number writes: its runs have 100,000,000 units
unfoldable pub trial_text : ℕ → List ℕ
trial_text n = text_within 100000000 n
