-- What tables that were filled by numbers hold. Assumes nothing.
use Rattle.std.proofs.Common.{◌≡◌, ℕ, zero, suc, ◌<◌, eqb, ◌⊎◌, List, [], ◌∷◌, map, length, set, replicate, Some, None, sym, refl, ap, ◌∙◌, subst, inl, inr, arith, length-set}
use Rattle.std.proofs.lemmas.List.{length-map, length-replicate}
use Rattle.std.proofs.lemmas.Bool.{cases_Bool, eqb-true, eqb-false}
use Rattle.std.proofs.lemmas.Grind.{common_steps}
use Rattle.std.proofs.lemmas.Option.{gets, slice_get_within}
use Rattle.std.specs.List.{slice_get, AllByRecursion}
use Rattle.market.specs.Distinct.{Absent, Distinct}
use Rattle.market.proofs.Pigeonhole.{Apart, UpTo, apart, each_there}
use Rattle.market_reader.specs.Tables.{set_at, about, filled, Among, NoneAbout, TableOf}

-- ---- elements by index

pub some_same : {X : Type 0} (x y : X) → Some x ≡ Some y → x ≡ y
some_same x y e = cc

none_some : {X : Type 0} {P : Type 0} (x : X) → None ≡ Some x → P
none_some x e = let z : ◌≡◌ {A = ℕ} 0 1 = cc in absurd (omega arith)

nth_set_same : {X : Type 0} (t : List X) (i : ℕ) (x : X) → i < length t → slice_get (set t i x) i ≡ Some x
nth_set_same t i x h = grind (arith, common_steps, gets)

nth_set_other : {X : Type 0} (t : List X) (i j : ℕ) (x : X) → (i ≡ j → ⊥) → slice_get (set t i x) j ≡ slice_get t j
nth_set_other t i j x n = grind (arith, common_steps, gets)

nth_replicate : {X : Type 0} (n i : ℕ) (d x : X) → slice_get (replicate n d) i ≡ Some x → x ≡ d
nth_replicate n i d x e = grind (arith, common_steps, gets)

-- Two lists with the same elements at each index are the same.
same_lists : {X : Type 0} (t u : List X) → length t ≡ length u → ((i : ℕ) (x y : X) → slice_get t i ≡ Some x → slice_get u i ≡ Some y → x ≡ y) → t ≡ u
same_lists [] [] size h = refl
same_lists [] (y ∷ u) size h = absurd (omega arith)
same_lists (x ∷ t) [] size h = absurd (omega arith)
same_lists (x ∷ t) (y ∷ u) size h = let first : x ≡ y = h 0 x y refl refl in let rest : t ≡ u = same_lists t u (omega arith) (λ i. h (suc i)) in cc

-- What holds of the element at each index holds of all.
pub all_by_nth : {X : Type 0} (P : X → Type 0) (t : List X) → ((i : ℕ) (x : X) → slice_get t i ≡ Some x → P x) → AllByRecursion P t
all_by_nth P [] h = tt
all_by_nth P (x ∷ t) h = (h 0 x refl, all_by_nth P t (λ i. h (suc i)))

pub nth_all : {X : Type 0} (P : X → Type 0) (t : List X) (i : ℕ) (x : X) → AllByRecursion P t → slice_get t i ≡ Some x → P x
nth_all P [] i x a e = none_some x e
nth_all P (y ∷ t) zero x a e = subst P (some_same y x e) a.0
nth_all P (y ∷ t) (suc i) x a e = nth_all P t i x a.1 e

-- ---- filling

length_set_at : {X : Type 0} (t : List X) (n : ℕ) (x : X) → length (set_at t n x) ≡ length t
length_set_at t zero x = refl
length_set_at t (suc i) x = length-set t i x

set_at_other : {X : Type 0} (t : List X) (n i : ℕ) (x : X) → (n ≡ suc i → ⊥) → slice_get (set_at t n x) i ≡ slice_get t i
set_at_other t zero i x h = refl
set_at_other t (suc j) i x h = nth_set_other t j i x (λ e. h (ap suc e))

module _ {X : Type 0} (value : List ℕ → X) where
  length_filled : (t : List X) (nss : List (List ℕ)) → length (filled value t nss) ≡ length t
  length_filled t [] = refl
  length_filled t (ns ∷ nss) = length_filled (set_at t (about ns) (value ns)) nss ∙ length_set_at t (about ns) (value ns)

  -- Where no record is about a number its entry stays.
  kept : (t : List X) (nss : List (List ℕ)) (i : ℕ) → NoneAbout (suc i) nss → slice_get (filled value t nss) i ≡ slice_get t i
  kept t [] i h = refl
  kept t (ns ∷ nss) i h = kept (set_at t (about ns) (value ns)) nss i h.1 ∙ set_at_other t (about ns) i (value ns) h.0

  -- Where one record is, its value is the entry.
  put : (t : List X) (nss : List (List ℕ)) (j : ℕ) (ns : List ℕ) (i : ℕ) → Apart (map about nss) → slice_get nss j ≡ Some ns → about ns ≡ suc i → i < length t → slice_get (filled value t nss) i ≡ Some (value ns)
  put t [] j ns i a e n h = none_some ns e
  put t (ms ∷ nss) zero ns i a e n h =
      let same : ms ≡ ns = some_same ms ns e in
      let place : about ms ≡ suc i = ap about same ∙ n in
      kept (set_at t (about ms) (value ms)) nss i (absent_about nss (suc i) (subst (λ k. Absent k (map about nss)) place a.0))
      ∙ ap (λ k. slice_get (set_at t k (value ms)) i) place
      ∙ nth_set_same t i (value ms) h
      ∙ ap (λ l. Some (value l)) same
    where
      absent_about : (nss : List (List ℕ)) (k : ℕ) → Absent k (map about nss) → NoneAbout k nss
      absent_about [] k a = tt
      absent_about (ns ∷ nss) k a = (a.0, absent_about nss k a.1)
  put t (ms ∷ nss) (suc j) ns i a e n h = put (set_at t (about ms) (value ms)) nss j ns i a.1 e n (omega (arith, length_set_at t (about ms) (value ms)))

-- A record about a number, or none.
find_about : (k : ℕ) (nss : List (List ℕ)) → NoneAbout k nss ⊎ ((ns : List ℕ) × Among nss ns × (about ns ≡ k))
find_about k [] = inl tt
find_about k (ns ∷ nss) =
    elim (cases_Bool (eqb (about ns) k)) [
      | inl e ↦ inr (ns, (0, refl), eqb-true (about ns) k e)
      | inr e ↦ elim (find_about k nss) [
        | inl none ↦ inl (eqb-false (about ns) k e, none)
        | inr some ↦ inr (some.0, (suc some.1.0, some.1.1), some.2)
      ]
    ]

-- Records that are about different numbers fill a table.
pub filled_table : {X : Type 0} (value : List ℕ → X) (default : X) (size : ℕ) (nss : List (List ℕ)) → Distinct (map about nss) → AllByRecursion (λ ns. UpTo size (about ns)) nss → TableOf value default size nss (filled value (replicate size default) nss)
filled_table value default size nss once range = record {
  entries = length_filled value (replicate size default) nss ∙ length-replicate size default;
  told = told;
  said = λ i x e.
      elim (find_about (suc i) nss) [
        | inl none ↦ inr (none, nth_replicate size i default x (sym (kept value (replicate size default) nss i none) ∙ e))
        | inr some ↦ inl (some.0, some.1, some.2, some_same x (value some.0) (sym e ∙ told some.0 i some.1 some.2))
      ];
}
  where
    told : (ns : List ℕ) (i : ℕ) → Among nss ns → about ns ≡ suc i → slice_get (filled value (replicate size default) nss) i ≡ Some (value ns)
    told ns i a e =
        put value (replicate size default) nss a.0 ns i (apart (map about nss) once) a.1 e (omega (arith, e, nth_all (λ ms. UpTo size (about ms)) nss a.0 ns range a.1, length-replicate size default))

-- There is one table at most.
pub one_table : {X : Type 0} (value : List ℕ → X) (default : X) (size : ℕ) (nss : List (List ℕ)) (t u : List X) → TableOf value default size nss t → TableOf value default size nss u → t ≡ u
one_table {X = X} value default size nss t u a b = same_lists t u (a.entries ∙ sym b.entries) same
  where
    clash : (k : ℕ) (nss : List (List ℕ)) (j : ℕ) (ns : List ℕ) → NoneAbout k nss → slice_get nss j ≡ Some ns → about ns ≡ k → ⊥
    clash k nss j ns none e = nth_all (λ ms. about ms ≡ k → ⊥) nss j ns none e

    same : (i : ℕ) (x y : X) → slice_get t i ≡ Some x → slice_get u i ≡ Some y → x ≡ y
    same i x y e f =
        elim (a.said i x e) [
          | inl said ↦ said.3 ∙ some_same (value said.0) y (sym (b.told said.0 i said.1 said.2) ∙ f)
          | inr none ↦ elim (b.said i y f) [
            | inl said ↦ absurd (clash (suc i) nss said.1.0 said.0 none.0 said.1.1 said.2)
            | inr also ↦ none.1 ∙ sym also.1
          ]
        ]

-- What holds of the values of all records, and of the default, holds of the entries.
pub all_entries : {X : Type 0} (P : X → Type 0) (value : List ℕ → X) (default : X) (size : ℕ) (nss : List (List ℕ)) (t : List X) → TableOf value default size nss t → AllByRecursion (λ ns. P (value ns)) nss → P default → AllByRecursion P t
all_entries P value default size nss t a all d = all_by_nth P t (λ i x e. elim (a.said i x e) [ inl said ↦ subst P (sym said.3) (nth_all (λ ns. P (value ns)) nss said.1.0 said.0 all said.1.1) | inr none ↦ subst P (sym none.1) d ])

-- Where there are as many records as entries, no default is left.
pub all_told : {X : Type 0} (P : X → Type 0) (value : List ℕ → X) (default : X) (size : ℕ) (nss : List (List ℕ)) (t : List X) → TableOf value default size nss t → Distinct (map about nss) → AllByRecursion (λ ns. UpTo size (about ns)) nss → length nss ≡ size → AllByRecursion (λ ns. P (value ns)) nss → AllByRecursion P t
all_told {X = X} P value default size nss t a once range count all = all_by_nth P t holds
  where
    ranges : (nss : List (List ℕ)) → AllByRecursion (λ ns. UpTo size (about ns)) nss → AllByRecursion (UpTo size) (map about nss)
    ranges [] r = tt
    ranges (ns ∷ nss) r = (r.0, ranges nss r.1)

    nowhere : (nss : List (List ℕ)) (k i : ℕ) → NoneAbout k nss → slice_get (map about nss) i ≡ Some k → ⊥
    nowhere [] k i none e = none_some k e
    nowhere (ns ∷ nss) k zero none e = none.0 (some_same (about ns) k e)
    nowhere (ns ∷ nss) k (suc i) none e = nowhere nss k i none.1 e

    holds : (i : ℕ) (x : X) → slice_get t i ≡ Some x → P x
    holds i x e =
        elim (a.said i x e) [
          | inl said ↦ subst P (sym said.3) (nth_all (λ ns. P (value ns)) nss said.1.0 said.0 all said.1.1)
          | inr none ↦
              let found = each_there size (map about nss) once (ranges nss range) (length-map nss about ∙ count) (suc i) (omega arith, omega (arith, slice_get_within t i x e, a.entries)) in
              absurd (nowhere nss (suc i) found.0 none.0 found.1)
        ]
