-- The bytes of the bands, each in its part of the output. Assumes nothing.
use Prim.Native.Nat.{ℕ, ◌+◌, ◌-◌, ◌*◌, ◌≤◌}
use mathlib.Core.Path.{◌≡◌, sym, ap, ap₂, ◌∙◌}
use mathlib.Core.List.{List, [], ◌++◌, append_assoc, append-nil}
use native.Mathlib.Omega.{arith}
use borrow.Rule.Slice.PartMut.{put_mid}
use lib.ListN.{length, take, drop, length-append, length-drop, drop_of_length-le}
use lib.Seq.{take_all, take_at, drop_at, drop-drop, drop-append_seam}
use Rattle.number.specs.declared.channel.Pixel.{Pixel}
use Rattle.refusal.specs.Output.{onto}

-- three bytes for each of some pixels, by any rule
module _
    (bytes : List Pixel → List ℕ)
    (appended : (ps qs : List Pixel) → bytes (ps ++ qs) ≡ bytes ps ++ bytes qs)
    (three : (ps : List Pixel) → length (bytes ps) ≡ 3 * length ps) where
  -- an output that has the bytes of `ps` in its front
  module _
      (ps : List Pixel)
      (old : List ℕ)
      {output : List ℕ}
      (content : output ≡ onto (bytes ps) old)
      {done : ℕ}
      (at : done ≡ 3 * length ps) where
    long : length (bytes ps) ≡ done
    long = three ps ∙ sym at

    behind : drop done output ≡ drop done old
    behind = rw content (drop_at (bytes ps) (drop (length (bytes ps)) old) done long ∙ ap (λ n. drop n old) long)

    -- the part behind it is lent
    pub lent : take (length output - done) (drop done output) ≡ drop done old
    lent = let n = length-drop done output in take_all (length output - done) (drop done output) (omega arith) ∙ behind

    -- and takes the bytes of more pixels
    pub put_next : (qs : List Pixel) {part : List ℕ} → part ≡ onto (bytes qs) (take (length output - done) (drop done output))
        → put_mid done (length output - done) output part ≡ onto (bytes (ps ++ qs)) old
    put_next qs {part} e =
        let n = length-drop done output in
        let front : take done output ≡ bytes ps = rw content (take_at (bytes ps) (drop (length (bytes ps)) old) done long) in
        let post : drop (length output - done) (drop done output) ≡ [] = drop_of_length-le (drop done output) {i = length output - done} (omega arith) in
        let count : length (bytes ps ++ bytes qs) ≡ done + length (bytes qs) = length-append (bytes ps) (bytes qs) ∙ rw long in
        ap₂ (λ xs ys. xs ++ ys) front (ap₂ (λ xs ys. xs ++ ys) (e ∙ ap (onto (bytes qs)) lent) post ∙ append-nil (onto (bytes qs) (drop done old)))
        ∙ ap (λ ys. bytes ps ++ (bytes qs ++ ys)) (drop-drop (length (bytes qs)) done old ∙ ap (λ k. drop k old) (sym count))
        ∙ sym (append_assoc (bytes ps) (bytes qs) (drop (length (bytes ps ++ bytes qs)) old)) ∙ ap (λ xs. onto xs old) (sym (appended ps qs))

  -- where an output has the bytes of all pixels, a part of it has those of some of them
  pub held_part : (ps qs rs : List Pixel) (old : List ℕ) → onto (bytes ((ps ++ qs) ++ rs)) old ≡ old
      → onto (bytes qs) (drop (3 * length ps) old) ≡ drop (3 * length ps) old
  held_part ps qs rs old e =
      let rest = drop (length (bytes ((ps ++ qs) ++ rs))) old in
      let shape : old ≡ bytes ps ++ (bytes qs ++ (bytes rs ++ rest)) =
      sym e ∙ ap (λ xs. xs ++ rest) (appended (ps ++ qs) rs ∙ ap (λ xs. xs ++ bytes rs) (appended ps qs))
      ∙ append_assoc (bytes ps ++ bytes qs) (bytes rs) rest ∙ append_assoc (bytes ps) (bytes qs) (bytes rs ++ rest) in
      let part : drop (3 * length ps) old ≡ bytes qs ++ (bytes rs ++ rest) =
      ap (drop (3 * length ps)) shape ∙ drop_at (bytes ps) (bytes qs ++ (bytes rs ++ rest)) (3 * length ps) (three ps) in
      ap (onto (bytes qs)) part ∙ ap (λ xs. bytes qs ++ xs) (drop-append_seam (bytes qs) (bytes rs ++ rest)) ∙ sym part

  pub held_room : (ps : List Pixel) (old : List ℕ) → onto (bytes ps) old ≡ old → 3 * length ps ≤ length old
  held_room ps old e =
      let n = length-append (bytes ps) (drop (length (bytes ps)) old) in
      omega (arith, n, ap length e, three ps)
