-- `ppm::words::fill_words` meets its contract: at each turn the stores that are left give the whole. Assumes nothing.
use Rattle.std.proofs.Common.{◌<◌, ◌/◌, refl, sym, ◌∙◌, length, arith}
use Rattle.refusal.proofs.Outputs.{sets_front}
use Rattle.word.proofs.Walks.{storing_all, storing_next, storing_done}
use Rattle.ppm.specs.Words.{little_endian}
use Rattle.ppm.proofs.Endian.{length_words, chunk_word}
use Rattle.ppm.proofs.words.fill_words.Goals as goal

pub loop-i-init : goal.loop-i-init
loop-i-init c =
    (refl, storing_all _ _ _ ∙ sets_front (little_endian c.args.bytes.now) _ (rw (length_words c.args.bytes.now) c.requires))

pub loop-i-preserved : goal.loop-i-preserved
loop-i-preserved c =
    let inside : c.loop-i.i < length c.args.bytes.now / 4 = omega arith in
    let chunk = chunk_word c.args.bytes.now _ c.loop-i.i refl inside in
    let word = rw c.as_chunks.ensures.front at c.from_le_bytes.ensures in
    storing_next _ _ _ c.loop-i.output c.loop-i.invariant (rw (length_words c.args.bytes.now) inside) (chunk ∙ sym word)

pub returns : goal.returns
returns c = storing_done _ _ _ _ c.loop-i.invariant (rw (length_words c.args.bytes.now) (omega arith))
