-- What the stores of a strip's own words leave. Assumes nothing.
use Rattle.std.specs.Prelude.{ℕ, List, set}
use Rattle.std.proofs.lemmas.List.Edits.{sets}
use Rattle.word.specs.declared.header.Header.{Header}
use Rattle.word.specs.Words.{pixels, head_words, end_word, end_index}

-- the words around the channels, stored in the output t
abbrev pub with_frame : Header → List ℕ → List ℕ
with_frame h t = set (sets t 0 (head_words h)) (end_index h) (end_word (pixels h))
