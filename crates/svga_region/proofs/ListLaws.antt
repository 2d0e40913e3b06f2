-- Lists with other values from an offset on, and lists in a list.
use Rattle.std.proofs.Common.{◌≡◌, ℕ, suc, ◌+◌, ◌<◌, ◌≤◌, refl, sym, ap, ◌∙◌, List, [], ◌∷◌, ◌++◌, length, map, take, drop, slice_index_or, slice_set, arith, append_assoc, length-append, length-take, length-drop, Bool, ◌||◌, Option, None, get_or-set_same, append-nil, replicate}
use Rattle.std.proofs.Math.Seq.{take-append_seam, drop-append-add, drop-cons, set-append_seam}
use Rattle.std.proofs.lemmas.List.{set-set, set-get_or, length-replicate, drop-drop, drop_all, take-append-drop}
use Rattle.std.specs.List.{list_any}
use Rattle.svga_cmd.specs.declared.page.PageKey.{PageKey}
use Rattle.svga_model.specs.Regions.{Places, remapped}

-- a test of mapped elements
pub list_any-map : {X Y : Type 0} (p : Y → Bool) (f : X → Y) (xs : List X) → list_any p (map f xs) ≡ list_any (λ x. p (f x)) xs
list_any-map p f [] = refl
list_any-map p f (x ∷ xs) = ap (λ b. p (f x) || b) (list_any-map p f xs)

-- other values leave the length
pub length-remapped : (xs : Places) (at : ℕ) (ys : Places) → at + length ys ≤ length xs → length (remapped xs at ys) ≡ length xs
length-remapped xs at ys fits = omega (arith, length-append (take at xs ++ ys) (drop (at + length ys) xs), length-append (take at xs) ys, length-take at xs, length-drop (at + length ys) xs)

-- the part that is done is one value longer
pub remapped_more : (xs : Places) (at k : ℕ) (ys : Places) (y : Option PageKey) → k ≡ length ys → at + k < length xs → slice_set (remapped xs at ys) (at + k) y ≡ remapped xs at (ys ++ y ∷ [])
remapped_more xs at k ys y is fits = ap (λ t. slice_set ((take at xs ++ ys) ++ t) (at + k) y) (ap (λ n. drop (at + n) xs) (sym is) ∙ drop-cons xs (at + k) None fits)
    ∙ ap (λ n. slice_set ((take at xs ++ ys) ++ slice_index_or xs (at + k) None ∷ drop (suc (at + k)) xs) n y) (sym front)
    ∙ set-append_seam (take at xs ++ ys) (slice_index_or xs (at + k) None) (drop (suc (at + k)) xs) y
    ∙ ap (λ n. (take at xs ++ ys) ++ y ∷ drop n xs) (let e : suc (at + k) ≡ at + length (ys ++ y ∷ []) = omega (arith, length-append ys (y ∷ [])) in e)
    ∙ sym (append_assoc (take at xs ++ ys) (y ∷ []) (drop (at + length (ys ++ y ∷ [])) xs))
    ∙ ap (λ t. t ++ drop (at + length (ys ++ y ∷ [])) xs) (append_assoc (take at xs) ys (y ∷ []))
  where
    front : length (take at xs ++ ys) ≡ at + k
    front = omega (arith, length-append (take at xs) ys, length-take at xs)

-- no values leave the list
pub remapped_none : (xs : Places) (at : ℕ) → remapped xs at [] ≡ xs
remapped_none xs at = ap (λ t. t ++ drop (at + 0) xs) (append-nil (take at xs)) ∙ ap (λ n. take at xs ++ drop n xs) (let e : at + 0 ≡ at = omega arith in e) ∙ take-append-drop at xs

-- all values are others
pub remapped_all : (xs ys : Places) → length ys ≡ length xs → remapped xs 0 ys ≡ ys
remapped_all xs ys e = ap (λ t. ys ++ t) (drop_all (0 + length ys) xs (omega arith)) ∙ append-nil ys

-- more values behind those that are done
pub remapped_on : (xs ys zs : Places) (k : ℕ) → k ≡ length ys → remapped (remapped xs 0 ys) k zs ≡ remapped xs 0 (ys ++ zs)
remapped_on xs ys zs k is =
    ap (λ t. t ++ zs ++ drop (k + length zs) (ys ++ drop (0 + length ys) xs)) (ap (λ n. take n (ys ++ drop (0 + length ys) xs)) is ∙ take-append_seam ys (drop (0 + length ys) xs))
    ∙ ap (λ t. (ys ++ zs) ++ t) (ap (λ n. drop (n + length zs) (ys ++ drop (0 + length ys) xs)) is ∙ drop-append-add ys (drop (0 + length ys) xs) (length zs) ∙ drop-drop (length zs) (0 + length ys) xs
    ∙ ap (λ n. drop n xs) (let e : 0 + length ys + length zs ≡ 0 + length (ys ++ zs) = omega (arith, length-append ys zs) in e))

-- the lists before anything is put
pub put_none : (lists : List Places) (slot at : ℕ) → lists ≡ slice_set lists slot (remapped (slice_index_or lists slot []) at [])
put_none lists slot at = sym (ap (slice_set lists slot) (remapped_none (slice_index_or lists slot []) at) ∙ set-get_or lists slot [])

-- what is put into the list at a slot is put behind what was put there
pub put_more : (initial lists : List Places) (slot at k : ℕ) (ys : Places) (y : Option PageKey) → slot < length initial → k ≡ length ys → at + k < length (slice_index_or initial slot [])
    → lists ≡ slice_set initial slot (remapped (slice_index_or initial slot []) at ys)
    → slice_set lists slot (slice_set (slice_index_or lists slot []) (at + k) y) ≡ slice_set initial slot (remapped (slice_index_or initial slot []) at (ys ++ y ∷ []))
put_more initial lists slot at k ys y within is fits e =
    ap (λ ls. slice_set ls slot (slice_set (slice_index_or ls slot []) (at + k) y)) e
    ∙ set-set initial slot done (slice_set (slice_index_or (slice_set initial slot done) slot []) (at + k) y)
    ∙ ap (λ xs. slice_set initial slot (slice_set xs (at + k) y)) (get_or-set_same initial slot done [] within)
    ∙ ap (slice_set initial slot) (remapped_more (slice_index_or initial slot []) at k ys y is fits)
  where
    done : Places
    done = remapped (slice_index_or initial slot []) at ys

-- many values behind those that were put
pub put_on : (initial lists : List Places) (slot k : ℕ) (ys zs : Places) → slot < length initial → k ≡ length ys
    → lists ≡ slice_set initial slot (remapped (slice_index_or initial slot []) 0 ys)
    → slice_set lists slot (remapped (slice_index_or lists slot []) k zs) ≡ slice_set initial slot (remapped (slice_index_or initial slot []) 0 (ys ++ zs))
put_on initial lists slot k ys zs within is e =
    ap (λ ls. slice_set ls slot (remapped (slice_index_or ls slot []) k zs)) e
    ∙ set-set initial slot done (remapped (slice_index_or (slice_set initial slot done) slot []) k zs)
    ∙ ap (λ xs. slice_set initial slot (remapped xs k zs)) (get_or-set_same initial slot done [] within)
    ∙ ap (slice_set initial slot) (remapped_on (slice_index_or initial slot []) ys zs k is)
  where
    done : Places
    done = remapped (slice_index_or initial slot []) 0 ys

-- the list at the slot is as long as it was
pub length_put : (initial lists : List Places) (slot at : ℕ) (ys : Places) → slot < length initial → at + length ys ≤ length (slice_index_or initial slot [])
    → lists ≡ slice_set initial slot (remapped (slice_index_or initial slot []) at ys) → length (slice_index_or lists slot []) ≡ length (slice_index_or initial slot [])
length_put initial lists slot at ys within fits e = ap (λ ls. length (slice_index_or ls slot [])) e
    ∙ ap length (get_or-set_same initial slot (remapped (slice_index_or initial slot []) at ys) [] within) ∙ length-remapped (slice_index_or initial slot []) at ys fits

-- a list that is made anew and filled from its front
pub put_whole : (lists : List Places) (slot n : ℕ) (news : Places) → slot < length lists → length news ≡ n
    → slice_set (slice_set lists slot (replicate n None)) slot (remapped (slice_index_or (slice_set lists slot (replicate n None)) slot []) 0 news) ≡ slice_set lists slot news
put_whole lists slot n news within many =
    set-set lists slot (replicate n None) (remapped (slice_index_or (slice_set lists slot (replicate n None)) slot []) 0 news)
    ∙ ap (λ xs. slice_set lists slot (remapped xs 0 news)) (get_or-set_same lists slot (replicate n None) [] within)
    ∙ ap (slice_set lists slot) (remapped_all (replicate n None) news (omega (arith, length-replicate {A = Option PageKey} n None)))

-- one value alone
pub put_one : (lists : List Places) (slot at : ℕ) (y : Option PageKey) → slot < length lists → at < length (slice_index_or lists slot [])
    → slice_set lists slot (slice_set (slice_index_or lists slot []) at y) ≡ slice_set lists slot (remapped (slice_index_or lists slot []) at (y ∷ []))
put_one lists slot at y within fits =
    ap (λ k. slice_set lists slot (slice_set (slice_index_or lists slot []) k y)) (let e : at ≡ at + 0 = omega arith in e)
    ∙ put_more lists lists slot at 0 [] y within refl (omega arith) (put_none lists slot at)
