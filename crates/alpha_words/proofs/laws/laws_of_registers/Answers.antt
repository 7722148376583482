use Rattle.alpha_words.proofs.RegLemmas.{IsFile-put, put_zero, reg-put_other, reg-put_same}
use Rattle.alpha_words.proofs.laws.laws_of_registers.Goals as goal

pub returns : goal.returns
returns c = record {
  zero = λ file f. f.zero;
  ignored = put_zero;
  written = λ file r value f small. reg-put_same file r value small f.size;
  others = λ file r other value apart. reg-put_other file r other value apart;
  file = λ file r value f small fits. IsFile-put file r value f small fits;
}
