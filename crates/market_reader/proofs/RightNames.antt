-- What records name, one after another. Assumes nothing.
use Rattle.std.proofs.Common.{◌≡◌, ℕ, Bool, true, false, cond, eqb, List, [], ◌∷◌, ◌++◌, map, sym, refl, ap, ◌∙◌, subst, inl, inr, append-nil, arith}
use Rattle.std.proofs.lemmas.Bool.{cases_Bool, both_ways, false≢true}
use Rattle.std.specs.List.{AllByRecursion}
use Rattle.market.specs.declared.node.Node.{Node}
use Rattle.market.specs.Data.{NodeRight, NodesRightAfter}
use Rattle.market.specs.Distinct.{Absent, DistinctAfter}
use Rattle.market_lines.specs.declared.kind.Kind.{Kind}
use Rattle.market_lines.specs.declared.kind.Kind.TheVariants as kind
use Rattle.market_lines.specs.Kinds.{letter_of}
use Rattle.naming.specs.declared.fault.Name.{Name}
use Rattle.naming.specs.Laws.{Unnamed, NamesRightly}
use Rattle.market.specs.declared.sizes.Sizes.{Sizes}
use Rattle.market_file.specs.Files.{numbers_at}
use Rattle.market_file.specs.Keeping.{Sections}
use Rattle.market_file.specs.Ledgers.{Known, name_in, node_in, noted}
use Rattle.market_reader.specs.Filling.{Entry, entries_of, of_kind}
use Rattle.market_reader.specs.Tables.{about}
use Rattle.market_reader.proofs.Recording.{formed_numbers, is_kind, of_kind_all, Fits}

-- Each record names nothing wrongly after those before it, of which d is known.
abbrev pub Rightly : Known → List Entry → Type 0
Rightly d [] = Unit {0}
Rightly d (e ∷ es) = NamesRightly d.names d.nodes e.kind e.numbers × Rightly (noted e.kind e.numbers d) es

pub rightly_each : (z : Sizes) (d : Known) (ks : List Kind) (ls : List (List ℕ)) → Sections z d ks ls → Rightly d (entries_of ks ls)
rightly_each z d [] ls s = tt
rightly_each z d (k ∷ ks) [] s = tt
rightly_each z d (k ∷ ks) (l ∷ ls) s =
    let same = formed_numbers z k s.0 l s.1 in (
      subst (NamesRightly d.names d.nodes k) same s.2,
      rightly_each z (noted k (numbers_at l) d) ks ls (subst (λ ns. Sections z (noted k ns d) ks ls) same s.3),
    )

-- What follows for each record of a kind from its naming nothing wrongly.
pub named_each : (k : Kind) (P : List ℕ → Type 0) → ((names : List Name) (nodes : List Node) (ns : List ℕ) → NamesRightly names nodes k ns → P ns) → (d : Known) (es : List Entry) → Rightly d es → AllByRecursion P (of_kind k es)
named_each k P one d es r = of_kind_all k P es (go d es r)
  where
    go : (d : Known) (es : List Entry) → Rightly d es → AllByRecursion (λ e. e.kind ≡ k → P e.numbers) es
    go d [] r = tt
    go d (e ∷ es) r = (λ same. one d.names d.nodes e.numbers (subst (λ x. NamesRightly d.names d.nodes x e.numbers) same r.0), go (noted e.kind e.numbers d) es r.1)

-- Kinds whose lines are about a place or an agent, once in their section.
abbrev pub keyed : Kind → Bool
keyed kind.Market = false
keyed kind.Contents = false
keyed kind.Seats = true
keyed kind.Queue = false
keyed kind.Priorities = true
keyed kind.Heir = false
keyed kind.Tenant = true
keyed kind.Ranking = true

-- What lines of a kind have named.
abbrev seen_of : Kind → List Name → List ℕ
seen_of k [] = []
seen_of k (a ∷ names) = cond (eqb (letter_of a.kind) (letter_of k)) (a.number ∷ seen_of k names) (seen_of k names)

seen_push : (k : Kind) (names : List Name) (a : Name) → seen_of k (names ++ a ∷ []) ≡ seen_of k names ++ cond (eqb (letter_of a.kind) (letter_of k)) (a.number ∷ []) []
seen_push k [] a = refl
seen_push k (b ∷ names) a =
    elim (eqb (letter_of b.kind) (letter_of k)) as (λ t. cond t (b.number ∷ seen_of k (names ++ a ∷ [])) (seen_of k (names ++ a ∷ [])) ≡ cond t (b.number ∷ seen_of k names) (seen_of k names) ++ cond (eqb (letter_of a.kind) (letter_of k)) (a.number ∷ []) []) [
      | true ↦ ap (λ l. b.number ∷ l) (seen_push k names a)
      | false ↦ seen_push k names a
    ]

unseen : (k : Kind) (names : List Name) (x : ℕ) → Unnamed names k x → Absent x (seen_of k names)
unseen k [] x u = tt
unseen k (a ∷ names) x u =
    elim (cases_Bool (eqb (letter_of a.kind) (letter_of k))) [
      | inl t ↦ rw t (u.0 (is_kind a.kind k t), unseen k names x u.1)
      | inr t ↦ rw t (unseen k names x u.1)
    ]

-- A kind that is about something is none of those that are not.
apart_kinds : (j k : Kind) → keyed j ≡ false → keyed k ≡ true → eqb (letter_of j) (letter_of k) ≡ false
apart_kinds j k a b = elim (cases_Bool (eqb (letter_of j) (letter_of k))) [ inl t ↦ absurd (both_ways (keyed k) (ap keyed (sym (is_kind j k t)) ∙ a) b) | inr t ↦ t ]

-- What lines of a kind have named after one line more.
seen_noted : (j k : Kind) (ns : List ℕ) (d : Known) → keyed k ≡ true → seen_of k (noted j ns d).names ≡ seen_of k d.names ++ cond (eqb (letter_of j) (letter_of k)) (about ns ∷ []) []
seen_noted kind.Market k ns d h = rw (apart_kinds kind.Market k refl h) (sym (append-nil (seen_of k d.names)))
seen_noted kind.Contents k ns d h = rw (apart_kinds kind.Contents k refl h) (sym (append-nil (seen_of k d.names)))
seen_noted kind.Seats k ns d h = seen_push k d.names (name_in kind.Seats ns)
seen_noted kind.Queue k ns d h = rw (apart_kinds kind.Queue k refl h) (sym (append-nil (seen_of k d.names)))
seen_noted kind.Priorities k ns d h = seen_push k d.names (name_in kind.Priorities ns)
seen_noted kind.Heir k ns d h = rw (apart_kinds kind.Heir k refl h) (sym (append-nil (seen_of k d.names)))
seen_noted kind.Tenant k ns d h = seen_push k d.names (name_in kind.Tenant ns)
seen_noted kind.Ranking k ns d h = seen_push k d.names (name_in kind.Ranking ns)

-- The first word of such a line is new.
first_new : (k : Kind) (names : List Name) (nodes : List Node) (ns : List ℕ) → keyed k ≡ true → NamesRightly names nodes k ns → Unnamed names k (about ns)
first_new kind.Market names nodes ns h r = absurd (false≢true h)
first_new kind.Contents names nodes ns h r = absurd (false≢true h)
first_new kind.Seats names nodes ns h r = r
first_new kind.Queue names nodes ns h r = absurd (false≢true h)
first_new kind.Priorities names nodes ns h r = r.0
first_new kind.Heir names nodes ns h r = absurd (false≢true h)
first_new kind.Tenant names nodes ns h r = r
first_new kind.Ranking names nodes ns h r = r.0

-- So the lines of such a kind are about different numbers.
pub about_different : (k : Kind) → keyed k ≡ true → (d : Known) (es : List Entry) → Rightly d es → DistinctAfter (seen_of k d.names) (map about (of_kind k es))
about_different k h d [] r = tt
about_different k h d (e ∷ es) r =
    let rest = about_different k h (noted e.kind e.numbers d) es r.1 in
    let seen = seen_noted e.kind k e.numbers d h in
    elim (cases_Bool (eqb (letter_of e.kind) (letter_of k))) [
      | inl t ↦ rw t (
        unseen k d.names (about e.numbers) (first_new k d.names d.nodes e.numbers h (subst (λ x. NamesRightly d.names d.nodes x e.numbers) (is_kind e.kind k t) r.0)),
        subst (λ s. DistinctAfter s (map about (of_kind k es))) (seen ∙ ap (λ b. seen_of k d.names ++ cond b (about e.numbers ∷ []) []) t) rest,
      )
      | inr t ↦ rw t (subst (λ s. DistinctAfter s (map about (of_kind k es))) (seen ∙ ap (λ b. seen_of k d.names ++ cond b (about e.numbers ∷ []) []) t ∙ append-nil (seen_of k d.names)) rest)
    ]

-- ---- nodes

-- The node of an H line.
node_right : (z : Sizes) (names : List Name) (earlier : List Node) (ns : List ℕ) → Fits z kind.Heir ns → NamesRightly names earlier kind.Heir ns → NodeRight z.agents z.places earlier (node_in ns)
node_right z names earlier [] f r = absurd (omega (arith, f.0.0))
node_right z names earlier (p ∷ []) f r = absurd (omega (arith, f.0.0))
node_right z names earlier (p ∷ q ∷ []) f r = absurd (omega (arith, f.0.0))
node_right z names earlier (p ∷ q ∷ t ∷ []) f r = absurd (omega (arith, f.0.0))
node_right z names earlier (p ∷ q ∷ t ∷ a ∷ ns) f r =
    let tail = f.1.2.2 in
    record {
      place = record { from_one = f.1.0; in_range = f.1.1 };
      took = tail.1;
      heir = record { from_one = tail.2.0; in_range = tail.2.1 };
      parent = r.0;
      unlike = r.1;
    }

nodes_kept : (k : Kind) (ns : List ℕ) (d : Known) → eqb (letter_of k) (letter_of kind.Heir) ≡ false → (noted k ns d).nodes ≡ d.nodes
nodes_kept kind.Market ns d h = refl
nodes_kept kind.Contents ns d h = refl
nodes_kept kind.Seats ns d h = refl
nodes_kept kind.Queue ns d h = refl
nodes_kept kind.Priorities ns d h = refl
nodes_kept kind.Heir ns d h = absurd (false≢true (sym h))
nodes_kept kind.Tenant ns d h = refl
nodes_kept kind.Ranking ns d h = refl

-- The nodes of H lines are right one after another.
pub nodes_right : (z : Sizes) (d : Known) (es : List Entry) → Rightly d es → AllByRecursion (λ e. e.kind ≡ kind.Heir → Fits z kind.Heir e.numbers) es → NodesRightAfter z.agents z.places d.nodes (map node_in (of_kind kind.Heir es))
nodes_right z d [] r f = tt
nodes_right z d (e ∷ es) r f =
    let rest = nodes_right z (noted e.kind e.numbers d) es r.1 f.1 in
    elim (cases_Bool (eqb (letter_of e.kind) (letter_of kind.Heir))) [
      | inl t ↦
          let same = is_kind e.kind kind.Heir t in
          rw t (
            node_right z d.names d.nodes e.numbers (f.0 same) (subst (λ x. NamesRightly d.names d.nodes x e.numbers) same r.0),
            subst (λ l. NodesRightAfter z.agents z.places l (map node_in (of_kind kind.Heir es))) (ap (λ x. (noted x e.numbers d).nodes) same) rest,
          )
      | inr t ↦ rw t (subst (λ l. NodesRightAfter z.agents z.places l (map node_in (of_kind kind.Heir es))) (nodes_kept e.kind e.numbers d t) rest)
    ]
