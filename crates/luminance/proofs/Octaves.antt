-- The index of a luminance of channels near one another, by the octave of the weighted sum's quotient. Assumes nothing.
use Rattle.std.proofs.Common.{◌≡◌, ℕ, ◌+◌, ◌-◌, ◌*◌, ◌/◌, ◌%◌, ◌^◌, ◌<◌, ◌≤◌, sym, refl, ap, ◌∙◌, mul-le-mul_right, mod-lt, mul-le-mul, mul-le-mul_left, lt_of_not-le, arith, pow_pos, pow_mono, pow-add, le-ltb, lt-ltb, eq-eqb, ne_eqb}
use native.Mathlib.Decide.{dec_le, dec_lt}
use Rattle.number.proofs.Laws.{◌over◌, IsLit, Coded, IsCode, unit, stored_of, cell}
use Rattle.number.specs.declared.channel.Channel.{Channel}
use Rattle.number.specs.declared.channel.Channel.TheVariants.{Black, Lit}
use Rattle.number.specs.declared.channel.Pixel.{Pixel}
use Rattle.number.specs.declared.ratio.Stored.{Stored}
use Rattle.luminance.specs.Pixels.{code_pixel, luminance_of}
use Rattle.luminance.specs.loops.Codes.{index_of, octave_index, near_place, near_sum, near_index, IsNear}
use Rattle.luminance.proofs.Indices.{scaled_stored, all_lit, sum_index}
use Rattle.std.specs.Prelude.{Some}

-- of a quotient from 128 on: j octaves up, with the mantissa M
record Octave (q : ℕ) : Type 0 where
  pub j : ℕ
  pub M : ℕ
  pub index : octave_index q ≡ 128 * j + M
  pub floor : M * 2 ^ j ≤ q
  pub ceiling : q < (M + 1) * 2 ^ j
  pub least : 128 ≤ M
  pub most : M ≤ 255

octave_of : (q : ℕ) → 128 ≤ q → q < 2048 → Octave q
octave_of q low high = by (dec_le 256 q) (dec_le 512 q) (dec_le 1024 q)
  where
    in_octave : (j M : ℕ) → octave_index q ≡ 128 * j + M → M * 2 ^ j ≤ q → q < (M + 1) * 2 ^ j → 128 ≤ M → M ≤ 255 → Octave q
    in_octave j M index floor ceiling least most =
        record { j = j; M = M; index = index; floor = floor; ceiling = ceiling; least = least; most = most }

    by : Dec (256 ≤ q) → Dec (512 ≤ q) → Dec (1024 ≤ q) → Octave q
    by (no a) _ _ = in_octave 0 q (omega arith) (omega arith) (omega arith) (omega arith) (omega arith)
    by (yes a) (no b) _ = in_octave 1 (q / 2) (omega arith) (omega arith) (omega arith) (omega arith) (omega arith)
    by (yes a) (yes b) (no c) = in_octave 2 (q / 4) (omega arith) (omega arith) (omega arith) (omega arith) (omega arith)
    by (yes a) (yes b) (yes c) = in_octave 3 (q / 8) (omega arith) (omega arith) (omega arith) (omega arith) (omega arith)

-- an index i that is no multiple of 128, with green's exponent E
octave_placed : (i E j M : ℕ) → i < 2 ^ 16 → (i + 8704) % 2 ^ 16 ≡ 128 * E + (128 * j + M) → 128 ≤ M → 72 ≤ E → (i % 128 ≡ 0 → ⊥)
    → (128 < M) × (E - 67 + 63 ≡ E - 4) × (i ≡ 128 * (E - 67 + j) + (M - 128))
octave_placed i E j M fits e least low other = (lt_of_not-le (λ g. other (omega arith)), omega arith, omega arith)

-- The mantissa 128 is left out: a hundred times a power of two seems to have it, and has the greatest of the octave below.
octave_index_law : (s q e d : ℕ) → q ≡ s / 64 / 25 → d + 63 ≡ e → (o : Octave q) → 128 < o.M
    → 128 * (d + o.j) + (o.M - 128) ≡ index_of (Some (stored_of (s * 2 ^ e over 100 * unit)))
octave_index_law s q e d quotient h o above =
    let j = o.j in
    let M = o.M in
    let power = pow-add 2 12 j in
    let half : 100 * 2 ^ (12 + j) < 2 * s = omega (arith, power, pow_pos j, o.floor, mul-le-mul_right (2 ^ j) above) in
    let floor : M * (100 * 2 ^ (12 + j)) ≤ 256 * s = rw power (omega (arith, o.floor)) in
    let ceiling : 256 * s < (M + 1) * (100 * 2 ^ (12 + j)) = rw power (omega (arith, o.ceiling)) in
    ap (λ (x : ℕ). 128 * x + (M - 128)) {x = d + j} {y = d + j + 66 - 66} (omega arith)
    ∙ sym (ap (λ (y : Stored). index_of (Some y))
    (scaled_stored s e (12 + j) M (d + j + 66) (omega arith)
    (record { normalised = cell (omega (arith, half)) o.most (omega (arith, floor)) (omega (arith, ceiling)) })))

-- both together, for the exponent E of green
octave_placed_law : (s i E : ℕ) → Octave (s / 64 / 25) → i < 2 ^ 16 → (i + 8704) % 2 ^ 16 ≡ 128 * E + octave_index (s / 64 / 25)
    → 72 ≤ E → (i % 128 ≡ 0 → ⊥) → i ≡ index_of (Some (stored_of (s * 2 ^ (E - 4) over 100 * unit)))
octave_placed_law s i E o fits e low other =
    let placed = octave_placed i E o.j o.M fits (rw o.index at e) o.least low other in
    placed.2 ∙ octave_index_law s (s / 64 / 25) (E - 4) (E - 67) refl placed.1 o placed.0

module _ (p : Pixel) {m n l x z s : ℕ} (red : Coded m p.red) (green : Coded n p.green) (blue : Coded l p.blue)
    (rx : (x < 8) × (x + n / 256 ≡ m / 256 + 4)) (bz : (z < 8) × (z + n / 256 ≡ l / 256 + 4))
    (sum : s ≡ (2 * (m % 256) + 1) * (27 * 2 ^ (x % 8)) + (2 * (n % 256) + 1) * (67 * 2 ^ 4) + (2 * (l % 256) + 1) * (6 * 2 ^ (z % 8)))
    (small : s < 2048 * 1600) (lit : n / 256 ≡ 0 → ⊥) where
  near_index_law : (i : ℕ) → i < 2 ^ 16 → (i + 8704) % 2 ^ 16 ≡ 128 * (n / 256) + octave_index (s / 64 / 25) → (i % 128 ≡ 0 → ⊥)
      → i ≡ index_of (luminance_of p)
  near_index_law i fits e other =
      let rx' : (x < 48) × (x + n / 256 ≡ m / 256 + 4) = (omega arith, rx.1) in
      let bz' : (z < 48) × (z + n / 256 ≡ l / 256 + 4) = (omega arith, bz.1) in
      let ex : x % 8 ≡ x = omega arith in
      let ez : z % 8 ≡ z = omega arith in
      let total = rw (ex, ez) at sum in
      let some : m ≡ 0 → n ≡ 0 → l ≡ 0 → ⊥ = λ h h' h''. lit (omega arith) in
      let green_lit = (all_lit p 4 red green blue rx' bz' (omega arith) total some).1.1 in
      octave_placed_law s i (n / 256) (octave_of (s / 64 / 25) (omega (arith, sum, green_lit.mantissa.least)) (omega arith)) fits e
      green_lit.least other
      ∙ sum_index p 4 red green blue rx' bz' (omega arith) total some

-- ---- the index by codes, in each of its cases

module _ (m n l : ℕ) where
  pub near_black : n / 256 ≡ 0 → near_index m n l ≡ 0
  unfolding near_index
  near_black e = simp (eq-eqb (n / 256) 0 e)

  module _ (lit : n / 256 ≡ 0 → ⊥) where
    pub far_blue : 8 ≤ near_place l n → near_index m n l ≡ 0
    unfolding near_index
    far_blue h = simp (ne_eqb (n / 256) 0 lit, le-ltb (near_place l n) 8 h)

    module _ (blue : near_place l n < 8) where
      pub far_red : 8 ≤ near_place m n → near_index m n l ≡ 0
      unfolding near_index
      far_red h = simp (ne_eqb (n / 256) 0 lit, lt-ltb (near_place l n) 8 blue, le-ltb (near_place m n) 8 h)

      abbrev sum : ℕ
      sum = near_sum m n l (near_place m n) (near_place l n)

      all_near : near_place m n < 8 → near_index m n l ≡ (128 * (n / 256) + octave_index (sum / 64 / 25) + 2 ^ 16 - 8704) % 2 ^ 16
      unfolding near_index
      all_near h = simp (ne_eqb (n / 256) 0 lit, lt-ltb (near_place l n) 8 blue, lt-ltb (near_place m n) 8 h)

      -- as the code works it out
      pub worked_out : (s o : ℕ) → near_place m n < 8 → s ≡ sum → o ≡ octave_index (s / 64 / 25)
          → (128 * (n / 256) + o + (2 ^ 16 - 8704)) % 2 ^ 16 ≡ near_index m n l
      worked_out s o red e f =
          regroup (128 * (n / 256) + o)
          ∙ ap (λ (v : ℕ). (128 * (n / 256) + v + 2 ^ 16 - 8704) % 2 ^ 16) (f ∙ ap (λ (t : ℕ). octave_index (t / 64 / 25)) e)
          ∙ sym (all_near red)
        where
          regroup : (a : ℕ) → (a + (2 ^ 16 - 8704)) % 2 ^ 16 ≡ (a + 2 ^ 16 - 8704) % 2 ^ 16
          regroup a = omega arith

-- ---- it is right for codes

exponent_most : (n : ℕ) (c : Channel) → Coded n c → n / 256 ≤ 184
exponent_most n Black h = omega (arith, h.code)
exponent_most n (Lit E M) h =
    let code : 256 * E + M ≡ n = h.code in
    let valid : IsLit E M = h.valid in
    omega (arith, valid.most, valid.mantissa.most)

-- the sum at any places
sum_small : (m n l r b : ℕ) → near_sum m n l r b < 2048 * 1600
sum_small m n l r b =
    let power : (k : ℕ) → 2 ^ (k % 8) ≤ 2 ^ 7 = λ k. pow_mono {i = k % 8} {j = 7} (omega arith) in
    let term : (v w k : ℕ) → (2 * (v % 256) + 1) * (w * 2 ^ (k % 8)) ≤ 511 * (w * 2 ^ 7)
    = λ v w k. mul-le-mul {n₂ = 511} {m₂ = w * 2 ^ 7} (omega arith) (mul-le-mul_left w (power k)) in
    omega (arith, term m 27 r, term l 6 b)

placed : (m n : ℕ) → m / 256 ≤ 184 → n / 256 ≤ 184 → near_place m n < 8 → near_place m n + n / 256 ≡ m / 256 + 4
placed m n h k l = omega arith

octave_small : (q : ℕ) → q < 2048 → octave_index q < 640
octave_small q h = omega arith

unwrapped : (a : ℕ) → a < 2 ^ 16 → ((a + 2 ^ 16 - 8704) % 2 ^ 16 + 8704) % 2 ^ 16 ≡ a
unwrapped a h = omega arith

pub is_near : (m n l : ℕ) → IsNear m n l (near_index m n l)
is_near m n l =
    record {
      right = λ red green blue other.
          go red green blue other (dec_le (n / 256) 0) (dec_lt (near_place l n) 8) (dec_lt (near_place m n) 8);
    }
  where
    none : near_index m n l ≡ 0 → (near_index m n l % 128 ≡ 0 → ⊥) → ⊥
    none e other = other (ap (λ (i : ℕ). i % 128) e)

    go : IsCode m → IsCode n → IsCode l → (near_index m n l % 128 ≡ 0 → ⊥)
        → Dec (n / 256 ≤ 0) → Dec (near_place l n < 8) → Dec (near_place m n < 8)
        → near_index m n l ≡ index_of (luminance_of (code_pixel m n l))
    go red green blue other (yes h) _ _ = absurd (none (near_black m n l (omega arith)) other)
    go red green blue other (no h) (no b) _ = absurd (none (far_blue m n l (λ e. omega arith) (omega arith)) other)
    go red green blue other (no h) (yes b) (no r) = absurd (none (far_red m n l (λ e. omega arith) b (omega arith)) other)
    go red green blue other (no h) (yes b) (yes r) =
        let lit : n / 256 ≡ 0 → ⊥ = λ e. omega arith in
        let most = exponent_most n _ green in
        let small = sum_small m n l (near_place m n) (near_place l n) in
        let e = all_near m n l lit b r in
        let q = sum m n l lit b / 64 / 25 in
        let index = 128 * (n / 256) + octave_index q in
        let fits : index < 2 ^ 16 = omega (arith, octave_small q (omega (arith, small)), most) in
        near_index_law (code_pixel m n l) red green blue
        (r, placed m n (exponent_most m _ red) most r) (b, placed l n (exponent_most l _ blue) most b) refl small lit
        (near_index m n l) (rw e (mod-lt _ (omega arith)))
        (ap (λ (i : ℕ). (i + 8704) % 2 ^ 16) e ∙ unwrapped index fits) other
