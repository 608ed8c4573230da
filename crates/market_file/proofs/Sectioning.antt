-- The lines of the sections: what their check means. Assumes nothing.
use Rattle.std.proofs.Common.{◌≡◌, ℕ, suc, List, [], ◌∷◌, Some, None, Ok, Err, Option, Result, sym, refl, ap, ◌∙◌, inl, inr}
use Rattle.market_lines.specs.declared.fault.LineFault.{LineFault}
use Rattle.market_lines.specs.declared.fault.MarketFault.{MarketFault}
use Rattle.market_lines.specs.declared.fault.MarketFault.TheVariants as fault
use Rattle.market_lines.specs.declared.kind.Kind.{Kind}
use Rattle.market_lines.specs.Records.{Read, whole}
use Rattle.naming.specs.declared.fault.NameFault.{NameFault}
use Rattle.naming.specs.Faults.{name_fault}
use Rattle.naming.specs.Laws.{NamesRightly, NamesWrongly, NamesLaw}
use Rattle.naming.proofs.Naming.{names_law}
use Rattle.market.specs.declared.sizes.Sizes.{Sizes}
use Rattle.market_file.specs.Files.{at_line, and_then, numbers_at, wrong_at, named_at, sections_checked}
use Rattle.market_file.specs.FormedLines.{line_formed, FormedLine, BrokenLine, LineByForm}
use Rattle.market_file.specs.Keeping.{Sections, BrokenSections}
use Rattle.market_file.specs.Ledgers.{Known, noted}
use Rattle.market_file.proofs.Forming.{line_by_form, numbers_at_line}

-- What the check of one line means.
pub law : (z : Sizes) (k : Kind) (text : List ℕ) → LineByForm z k text (line_formed k z text)
law z k text = line_by_form z k text (line_formed k z text) refl

-- ---- the sections

-- What a line that was formed comes to: its numbers are those of its words.
goes : (z : Sizes) (n : ℕ) (d : Known) (k : Kind) (ks : List Kind) (l : List ℕ) (ls : List (List ℕ)) (ns : List ℕ) → FormedLine z k ns l → sections_checked z n d (k ∷ ks) (l ∷ ls) ≡ and_then (named_at (suc n) (name_fault d.names d.nodes k ns)) (sections_checked z (suc n) (noted k ns d) ks ls)
goes z n d k ks l ls ns f =
    let e = (law z k l).complete ns f in
    ap (λ o. and_then (at_line (suc n) o) (and_then (named_at (suc n) (name_fault d.names d.nodes k (numbers_at l))) (sections_checked z (suc n) (noted k (numbers_at l) d) ks ls))) e
    ∙ ap (λ ms. and_then (named_at (suc n) (name_fault d.names d.nodes k ms)) (sections_checked z (suc n) (noted k ms d) ks ls)) (sym (numbers_at_line k z l (whole k l ns) e))

-- What its names mean.
naming : (d : Known) (k : Kind) (ns : List ℕ) → NamesLaw d.names d.nodes k ns (name_fault d.names d.nodes k ns)
naming d k ns = names_law d.names d.nodes k ns (name_fault d.names d.nodes k ns) refl

-- A line of the sections, by the ways of its check.
module _ (z : Sizes) (n : ℕ) (d : Known) (k : Kind) (ks : List Kind) (l : List ℕ) (ls : List (List ℕ)) (P : Type 0) where
  -- Its form is broken, or else it names something wrongly, or else the lines after it decide.
  by_line : ((x : LineFault) → BrokenLine z k x l → sections_checked z n d (k ∷ ks) (l ∷ ls) ≡ Err (fault.InLine (record { line = suc n; fault = x })) → P)
      → ((ns : List ℕ) → FormedLine z k ns l → (f : NameFault) → NamesWrongly d.names d.nodes k ns f → sections_checked z n d (k ∷ ks) (l ∷ ls) ≡ Err (wrong_at (suc n) f) → P)
      → ((ns : List ℕ) → FormedLine z k ns l → NamesRightly d.names d.nodes k ns → sections_checked z n d (k ∷ ks) (l ∷ ls) ≡ sections_checked z (suc n) (noted k ns d) ks ls → P)
      → P
  by_line bad wrong right = at (line_formed k z l) refl
    where
      names : (ns : List ℕ) → FormedLine z k ns l → (o : Option NameFault) → name_fault d.names d.nodes k ns ≡ o → P
      names ns f (Some x) is = wrong ns f x ((naming d k ns).fault x is) (goes z n d k ks l ls ns f ∙ ap (λ o. and_then (named_at (suc n) o) (sections_checked z (suc n) (noted k ns d) ks ls)) is)
      names ns f None is = right ns f ((naming d k ns).sound is) (goes z n d k ks l ls ns f ∙ ap (λ o. and_then (named_at (suc n) o) (sections_checked z (suc n) (noted k ns d) ks ls)) is)

      at : (o : Result Read LineFault) → line_formed k z l ≡ o → P
      at (Err x) is = bad x ((law z k l).fault x is) (ap (λ o. and_then (at_line (suc n) o) (and_then (named_at (suc n) (name_fault d.names d.nodes k (numbers_at l))) (sections_checked z (suc n) (noted k (numbers_at l) d) ks ls))) is)
      at (Ok x) is = names x.numbers ((law z k l).sound x is).1 (name_fault d.names d.nodes k x.numbers) refl

never : {X : Type 0} (x : X) (e : MarketFault) → ◌≡◌ {A = Result X MarketFault} (Err e) (Ok x) → ⊥
never x e h = cc

same_fault : {X : Type 0} (e f : MarketFault) → ◌≡◌ {A = Result X MarketFault} (Err e) (Err f) → f ≡ e
same_fault e f h = cc

pub sections_sound : (z : Sizes) (n : ℕ) (d : Known) (ks : List Kind) (ls : List (List ℕ)) (u : Unit) → sections_checked z n d ks ls ≡ Ok u → Sections z d ks ls
sections_sound z n d [] [] u e = tt
sections_sound z n d [] (l ∷ ls) u e = absurd cc
sections_sound z n d (k ∷ ks) [] u e = absurd cc
sections_sound z n d (k ∷ ks) (l ∷ ls) u e =
    by_line z n d k ks l ls _
    (λ x b is. absurd (never u _ (sym is ∙ e)))
    (λ ns f x w is. absurd (never u _ (sym is ∙ e)))
    (λ ns f r is. (ns, f, r, sections_sound z (suc n) (noted k ns d) ks ls u (sym is ∙ e)))

pub sections_complete : (z : Sizes) (n : ℕ) (d : Known) (ks : List Kind) (ls : List (List ℕ)) → Sections z d ks ls → sections_checked z n d ks ls ≡ Ok tt
sections_complete z n d [] [] s = refl
sections_complete z n d [] (l ∷ ls) s = absurd s
sections_complete z n d (k ∷ ks) [] s = absurd s
sections_complete z n d (k ∷ ks) (l ∷ ls) s =
    let ns = s.0 in
    goes z n d k ks l ls ns s.1
    ∙ ap (λ o. and_then (named_at (suc n) o) (sections_checked z (suc n) (noted k ns d) ks ls)) ((naming d k ns).complete s.2)
    ∙ sections_complete z (suc n) (noted k ns d) ks ls s.3

pub sections_broken : (z : Sizes) (n : ℕ) (d : Known) (ks : List Kind) (ls : List (List ℕ)) (e : MarketFault) → sections_checked z n d ks ls ≡ Err e → BrokenSections z n d ks ls e
sections_broken z n d [] [] e h = absurd cc
sections_broken z n d [] (l ∷ ls) e h = cc
sections_broken z n d (k ∷ ks) [] e h = cc
sections_broken z n d (k ∷ ks) (l ∷ ls) e h =
    by_line z n d k ks l ls _
    (λ x b is. inr (inl (x, b, same_fault _ e (sym is ∙ h))))
    (λ ns f x w is. inr (inr (ns, f, (x, w, same_fault _ e (sym is ∙ h)))))
    (λ ns f r is. inl (ns, f, r, sections_broken z (suc n) (noted k ns d) ks ls e (sym is ∙ h)))

pub sections_named : (z : Sizes) (n : ℕ) (d : Known) (ks : List Kind) (ls : List (List ℕ)) (e : MarketFault) → BrokenSections z n d ks ls e → sections_checked z n d ks ls ≡ Err e
sections_named z n d [] [] e b = absurd b
sections_named z n d [] (l ∷ ls) e b = ap Err (sym b)
sections_named z n d (k ∷ ks) [] e b = ap Err (sym b)
sections_named z n d (k ∷ ks) (l ∷ ls) e (inl b) =
    let ns = b.0 in
    goes z n d k ks l ls ns b.1
    ∙ ap (λ o. and_then (named_at (suc n) o) (sections_checked z (suc n) (noted k ns d) ks ls)) ((naming d k ns).complete b.2)
    ∙ sections_named z (suc n) (noted k ns d) ks ls e b.3
sections_named z n d (k ∷ ks) (l ∷ ls) e (inr (inl b)) =
    ap (λ o. and_then (at_line (suc n) o) (and_then (named_at (suc n) (name_fault d.names d.nodes k (numbers_at l))) (sections_checked z (suc n) (noted k (numbers_at l) d) ks ls))) ((law z k l).named b.0 b.1) ∙ ap Err (sym b.2)
sections_named z n d (k ∷ ks) (l ∷ ls) e (inr (inr b)) =
    let ns = b.0 in
    goes z n d k ks l ls ns b.1
    ∙ ap (λ o. and_then (named_at (suc n) o) (sections_checked z (suc n) (noted k ns d) ks ls)) ((naming d k ns).named b.2.0 b.2.1)
    ∙ ap Err (sym b.2.2)
