-- `body::levels::limit_levels` meets its contract: at each turn the stores that are left give the whole. Assumes nothing.
use Rattle.std.proofs.Common.{◌≡◌, ◌<◌, length, refl, sym, ◌∙◌, append-nil, arith, drop_of_length-le}
use Rattle.refusal.proofs.Outputs.{sets_front}
use Rattle.word.proofs.Walks.{storing_all, storing_next, storing_done}
use Rattle.body.specs.loops.LevelBlocks.{limited_front}
use Rattle.body.proofs.LevelBlocks.{length_limited, limited_at}
use Rattle.body.proofs.levels.limit_levels.Goals as goal

pub loop-j-init : goal.loop-j-init
loop-j-init c =
    let output = c.args.output.now in
    let vs = limited_front (length output) c.args.wide.now in
    let long : length vs ≡ length output = length_limited _ _ (omega arith) in (
      refl,
      storing_all _ _ _ ∙ sets_front vs output (omega (arith, long))
          ∙ rw (drop_of_length-le output {i = length vs} (omega (arith, long)), append-nil vs),
    )

pub loop-j-preserved : goal.loop-j-preserved
loop-j-preserved c =
    let l = c.loop-j in
    let count = length c.args.output.now in
    let vs = limited_front count c.args.wide.now in
    let long : length vs ≡ count = length_limited _ _ (omega arith) in
    let inside : l.j < count = omega arith in
    storing_next vs l.j _ l.output l.invariant (rw long inside) (limited_at _ _ _ inside ∙ sym c.at_most_255.ensures)

pub returns : goal.returns
returns c =
    let l = c.loop-j in
    let count = length c.args.output.now in
    let long = length_limited c.args.wide.now count (omega arith) in
    storing_done (limited_front count c.args.wide.now) l.j _ l.output l.invariant (rw long (omega arith))
