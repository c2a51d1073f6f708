-- A tag write: three ranges of bytes are stored, none over another's, so each is read as it was stored, and the rest as before.
use mathlib.Core.Path.{◌≡◌, refl, sym, ap, ◌∙◌}
use mathlib.Core.Bool.{true}
use mathlib.Core.Logic.{◌⊎◌, inl, inr, ⊎_elim}
use mathlib.Core.List.{List}
use Prim.Native.Nat.{ℕ, ◌+◌, ◌-◌, ◌≤◌, ◌<◌}
use native.Mathlib.Omega.{arith}
use native.Mathlib.Decide.{dec_lt}
use lib.ListN.{length, get_or, take, drop, replicate, length-append, length-drop}
use lib.Seq.{ext_get_or, get_or-take, get_or-drop, length-take-le, take-take, take-append_seam}
use borrow.Author.Tests.{le-leb}
use Rattle.bitfield.specs.Field.{get_field, Apart}
use Rattle.bitfield.proofs.Laws.{get-put, get-put_other, byte_put, length-put, get-lt}
use Rattle.plan.specs.Stores.{applied, range_of}
use Rattle.plan.specs.Inner.{Within}
use Rattle.plan.proofs.Laws.{applied-append, applied-length, range_length, range-in, range-out, within-append, within-range}
use Rattle.store.specs.Fields.{read, write, fits, bytes_around}
use Rattle.store.specs.Layout.{tag_length, former_length, fields_in_range}
use Rattle.store.specs.Contents.{tag_of, former_tag_of, with_lengths, tag_stores}
use Rattle.wire.specs.Digits.{padded}
use Rattle.wire.proofs.DigitLaws.{padded-length}
use Rattle.store.proofs.StoreLaws.{RestKept, field-placed, apart_sym, in_range-one, in_range-write, read-bytes, in_range-same}

-- the store u is m with the tag written: the tag and zeros, the old tag as the former one, both lengths, and all else as before
pub record TagWritten (m tag u : List ℕ) : Type 0 where
  pub size : length u ≡ length m
  pub bytes : take 16 (drop 12 u) ≡ padded tag
  pub count : read u tag_length ≡ length tag
  pub former_bytes : take 16 (drop 28 u) ≡ take 16 (drop 12 m)
  pub former_count : read u former_length ≡ read m tag_length
  pub fields : (at width : ℕ) → Apart 84 10 at width → Apart 96 256 at width → get_field u at width ≡ get_field m at width
  pub rest : RestKept m u
  pub outside : (j : ℕ) → (j < 10) ⊎ (44 ≤ j) → get_or u j 0 ≡ get_or m j 0

-- ---- what is stored

module _ (m tag : List ℕ) (size : length m ≡ 128) (short : length tag ≤ 16) where
  old_length : length (take 16 (drop 12 m)) ≡ 16
  old_length = length-take-le 16 (drop 12 m) (simp length-drop (omega arith))

  lengths-length : length (with_lengths m (length tag)) ≡ 128
  unfolding with_lengths
  lengths-length = simp length-put size

  two_bytes : length (take 2 (drop 10 (with_lengths m (length tag)))) ≡ 2
  two_bytes = length-take-le 2 (drop 10 (with_lengths m (length tag))) (simp length-drop (omega (arith, lengths-length)))

  pub tag_count : length (tag_stores m tag) ≡ 34
  unfolding tag_stores
  tag_count = simp (length-append, range_length) (omega (arith, old_length, padded-length tag short, two_bytes))

  pub tag_within : Within 128 (tag_stores m tag)
  unfolding tag_stores
  tag_within =
      within-append 128 (range_of 28 (take 16 (drop 12 m))) _ (within-range 128 28 (take 16 (drop 12 m)) (omega (arith, old_length)))
      (within-append 128 (range_of 12 (padded tag)) _ (within-range 128 12 (padded tag) (omega (arith, padded-length tag short)))
      (within-range 128 10 (take 2 (drop 10 (with_lengths m (length tag)))) (omega (arith, two_bytes))))

  -- ---- the store after it, one range after the other

  u₁ : List ℕ
  u₁ = applied (range_of 28 (take 16 (drop 12 m))) m

  u₂ : List ℕ
  u₂ = applied (range_of 12 (padded tag)) u₁

  u : List ℕ
  u = applied (tag_stores m tag) m

  u₁_length : length u₁ ≡ 128
  unfolding u₁
  u₁_length = applied-length (range_of 28 (take 16 (drop 12 m))) m ∙ size

  u₂_length : length u₂ ≡ 128
  unfolding u₂
  u₂_length = applied-length (range_of 12 (padded tag)) u₁ ∙ u₁_length

  u_is : u ≡ applied (bytes_around 84 10 (with_lengths m (length tag))) u₂
  unfolding u u₂ u₁ tag_stores
  u_is = applied-append (range_of 28 (take 16 (drop 12 m))) _ m ∙ applied-append (range_of 12 (padded tag)) _ u₁

  -- bytes 10 and 11 hold the lengths
  at-lengths : (i : ℕ) → i < 2 → get_or u (10 + i) 0 ≡ get_or (with_lengths m (length tag)) (10 + i) 0
  at-lengths i h =
      ap (λ (l : List ℕ). get_or l (10 + i) 0) u_is
      ∙ range-in 10 (take 2 (drop 10 (with_lengths m (length tag)))) u₂ i (omega (arith, two_bytes)) (omega (arith, two_bytes, u₂_length))
      ∙ get_or-take 2 (drop 10 (with_lengths m (length tag))) i 0 h
      ∙ get_or-drop 10 (with_lengths m (length tag)) i 0

  -- the others are as the first two ranges left them
  at_rest_lem : (j : ℕ) → (j < 10) ⊎ (12 ≤ j) → get_or u j 0 ≡ get_or u₂ j 0
  at_rest_lem j h =
      ap (λ (l : List ℕ). get_or l j 0) u_is
      ∙ range-out 10 (take 2 (drop 10 (with_lengths m (length tag)))) u₂ j (⊎_elim (λ x. inl x) (λ x. inr (omega (arith, two_bytes))) h)

  at_tag : (i : ℕ) → i < 16 → get_or u (12 + i) 0 ≡ get_or (padded tag) i 0
  unfolding u₂
  at_tag i h =
      at_rest_lem (12 + i) (inr (omega arith))
      ∙ range-in 12 (padded tag) u₁ i (omega (arith, padded-length tag short)) (omega (arith, padded-length tag short, u₁_length))

  at-former : (i : ℕ) → i < 16 → get_or u (28 + i) 0 ≡ get_or (take 16 (drop 12 m)) i 0
  unfolding u₂ u₁
  at-former i h =
      at_rest_lem (28 + i) (inr (omega arith))
      ∙ range-out 12 (padded tag) u₁ (28 + i) (inr (omega (arith, padded-length tag short)))
      ∙ range-in 28 (take 16 (drop 12 m)) m i (omega (arith, old_length)) (omega (arith, old_length))

  at_other : (j : ℕ) → (j < 10) ⊎ (44 ≤ j) → get_or u j 0 ≡ get_or m j 0
  unfolding u₂ u₁
  at_other j h =
      at_rest_lem j (⊎_elim (λ x. inl x) (λ x. inr (omega arith)) h)
      ∙ range-out 12 (padded tag) u₁ j (⊎_elim (λ x. inl (omega arith)) (λ x. inr (omega (arith, padded-length tag short))) h)
      ∙ range-out 28 (take 16 (drop 12 m)) m j (⊎_elim (λ x. inl (omega arith)) (λ x. inr (omega (arith, old_length))) h)

  u_length : length u ≡ length m
  unfolding u
  u_length = applied-length (tag_stores m tag) m

  -- 16 bytes from a place on, known one by one
  sixteen : (p : ℕ) (bs : List ℕ) → length bs ≡ 16 → p + 16 ≤ 128
      → ((i : ℕ) → i < 16 → get_or u (p + i) 0 ≡ get_or bs i 0) → take 16 (drop p u) ≡ bs
  sixteen p bs l h f =
      let n : length (take 16 (drop p u)) ≡ 16 = length-take-le 16 (drop p u) (simp length-drop (omega (arith, u_length))) in
      ext_get_or 0 (take 16 (drop p u)) bs (n ∙ sym l)
      (λ i k. let j : i < 16 = omega arith in get_or-take 16 (drop p u) i 0 j ∙ get_or-drop p u i 0 ∙ f i j)

  -- ---- the fields after it

  lengths-keep : (at width : ℕ) → Apart 84 10 at width → get_field (with_lengths m (length tag)) at width ≡ get_field m at width
  unfolding with_lengths
  lengths-keep at width a =
      get-put_other (write m former_length (read m tag_length)) 84 5 (length tag) at width (⊎_elim (λ x. inl (omega arith)) (λ x. inr x) a)
      ∙ get-put_other m 89 5 (read m tag_length) at width (⊎_elim (λ x. inl (omega arith)) (λ x. inr (omega arith)) a)

  lengths-keep_byte : (j : ℕ) → j < 10 → get_or (with_lengths m (length tag)) j 0 ≡ get_or m j 0
  unfolding with_lengths
  lengths-keep_byte j h =
      byte_put (write m former_length (read m tag_length)) 84 5 (length tag) j (inr (omega arith))
      ∙ byte_put m 89 5 (read m tag_length) j (inr (omega arith))

  -- bytes 0 to 11 are as the lengths were put
  at_head : (j : ℕ) → j < 12 → get_or u j 0 ≡ get_or (with_lengths m (length tag)) j 0
  at_head j h = go (dec_lt j 10)
    where
      go : Dec (j < 10) → get_or u j 0 ≡ get_or (with_lengths m (length tag)) j 0
      go (yes x) = at_other j (inl x) ∙ sym (lengths-keep_byte j x)
      go (no x) = let q : 10 + (j - 10) ≡ j = omega arith in rw q at (at-lengths (j - 10) (omega arith))

  in_head : (at width : ℕ) → at + width ≤ 96 → get_field u at width ≡ get_field (with_lengths m (length tag)) at width
  in_head at width h = read-bytes (with_lengths m (length tag)) u at width (λ j _ k. at_head j (omega arith))

  -- and the bytes past the tags as they were
  past_tags : (j : ℕ) → 44 ≤ j → get_or u j 0 ≡ get_or (with_lengths m (length tag)) j 0
  unfolding with_lengths
  past_tags j h =
      at_other j (inr h)
      ∙ sym (byte_put (write m former_length (read m tag_length)) 84 5 (length tag) j (inl (omega arith)) ∙ byte_put m 89 5 (read m tag_length) j (inl (omega arith)))

  not_in_tags : (at width : ℕ) → Apart 96 256 at width → get_field u at width ≡ get_field (with_lengths m (length tag)) at width
  not_in_tags at width (inl x) = read-bytes (with_lengths m (length tag)) u at width (λ j k _. past_tags j (omega arith))
  not_in_tags at width (inr x) = in_head at width x

  pub tag_written_lem : TagWritten m tag (applied (tag_stores m tag) m)
  unfolding u with_lengths
  tag_written_lem =
      record {
        size = u_length;
        bytes = sixteen 12 (padded tag) (padded-length tag short) (omega arith) at_tag;
        count =
            in_head 84 5 (omega arith)
            ∙ get-put (write m former_length (read m tag_length)) 84 5 (length tag) (simp length-put (omega arith)) (omega arith);
        former_bytes = sixteen 28 (take 16 (drop 12 m)) old_length (omega arith) at-former;
        former_count =
            in_head 89 5 (omega arith)
            ∙ get-put_other (write m former_length (read m tag_length)) 84 5 (length tag) 89 5 (inl (omega arith))
            ∙ get-put m 89 5 (read m tag_length) (omega arith) (get-lt m 84 5);
        fields = λ at width a t. not_in_tags at width t ∙ lengths-keep at width a;
        rest = record { bits = in_head 94 2 (omega arith) ∙ lengths-keep 94 2 (inl (omega arith)); bytes = λ j h. at_other j (inr (omega (arith, h))) };
        outside = at_other;
      }

  pub in_range_tag : fields_in_range m ≡ true → fields_in_range (applied (tag_stores m tag) m) ≡ true
  unfolding u with_lengths
  in_range_tag r =
      let f : fits tag_length (length tag) ≡ true = rw (le-leb 0 (length tag) (omega arith), le-leb (length tag) 16 short) in
      in_range-same (with_lengths m (length tag)) u (λ g e. not_in_tags g.at g.width (apart_sym g.at g.width 96 256 (field-placed g e).not_tag))
      (in_range-write (write m former_length (read m tag_length)) tag_length (length tag) refl (simp length-put (omega arith)) f
      (in_range-write m former_length (read m tag_length) refl (omega arith) (in_range-one m tag_length r refl) r))

-- ---- what is shown after it

pub tag_shown_law : (m tag u : List ℕ) → length tag ≤ 16 → TagWritten m tag u → tag_of u ≡ tag
unfolding tag_of padded
tag_shown_law m tag u h w =
    rw (w.count, ← take-take (length tag) 16 (drop 12 u) h, w.bytes) (take-append_seam tag (drop (length tag) (replicate 16 0)))

pub former_shown_law : (m tag u : List ℕ) → read m tag_length ≤ 16 → TagWritten m tag u → former_tag_of u ≡ tag_of m
unfolding tag_of former_tag_of
former_shown_law m tag u h w =
    rw (w.former_count, ← take-take (read m tag_length) 16 (drop 28 u) h, w.former_bytes) (take-take (read m tag_length) 16 (drop 12 m) h)
