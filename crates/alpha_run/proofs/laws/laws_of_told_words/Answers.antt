use Rattle.alpha_run.proofs.RunsByWords.{by_words, by_words_part, ImpreciseRanAs-DrawsFew, cut_draws_few}
use Rattle.alpha_run.proofs.laws.laws_of_told_words.Goals as goal

pub returns-clause-whole : goal.returns-clause-whole
returns-clause-whole c last n left watch w new before after input out notes bytes ahead ran tells told fresh =
    by_words last n left watch w new before after input out notes bytes ahead ran tells told fresh

pub returns-clause-part : goal.returns-clause-part
returns-clause-part c fault n rest watch w new before after input out notes bytes ahead cut tells told fresh =
    by_words_part fault n watch w new before after input out notes bytes ahead cut tells told fresh

pub returns-clause-few : goal.returns-clause-few
returns-clause-few c last n left watch w new before after input out notes ran calm =
    ImpreciseRanAs-DrawsFew last n left watch w new before after input out notes ran calm

pub returns-clause-few_part : goal.returns-clause-few_part
returns-clause-few_part c fault n rest watch w new before after input out notes cut calm =
    cut_draws_few fault n watch w new before after input out notes cut calm
