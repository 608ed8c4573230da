-- The lines of owners, one after another. Assumes nothing.
use Rattle.std.proofs.Common.{◌≡◌, ℕ, suc, List, ◌++◌, Ok, Result, codes, sym, ap, ◌∙◌, append_assoc}
use Rattle.std.specs.Result.{result_map_both}
use Rattle.market.specs.declared.agent.Agent.{Agent}
use Rattle.market.specs.declared.node.Node.{Node}
use Rattle.market.specs.declared.refusal.Refusal.{Refusal}
use Rattle.market.specs.declared.tenant.Tenant.{Tenant}
use Rattle.inheritance.specs.declared.base.Base.{Base}
use Rattle.inheritance.specs.declared.layer.Layer.{Layer}
use Rattle.market_reader.specs.Held.{Held}
use Rattle.market_reader.specs.Keeping.{SoundMarket}
use Rattle.piles.specs.Piles.{pile_terms, terms_of, PileLaw}
use Rattle.market.specs.Rows.{Row}
use Rattle.market.specs.Rules.{Terms}
use Rattle.console.specs.Printed.{pair_text, owners_from}

-- The next line, put after what stands there, and the lines after it.
pub owner_more : (T : Terms) (A : Row) (k j n c : ℕ) (a : Agent) (before now : List ℕ) → n ≡ suc c → j ≡ suc k → a ≡ T.owner A (record { number = k }) → now ≡ before ++ pair_text (codes "owner") k a.number → now ++ owners_from T A j c ≡ before ++ owners_from T A k n
owner_more T A k j n c a before now count next owner put =
    ap (λ l. l ++ owners_from T A j c) (put ∙ ap (λ b. before ++ pair_text (codes "owner") k b.number) owner)
    ∙ append_assoc before (pair_text (codes "owner") k (T.owner A (record { number = k })).number) (owners_from T A j c)
    ∙ ap (λ i. before ++ (pair_text (codes "owner") k (T.owner A (record { number = k })).number ++ owners_from T A i c)) next
    ∙ ap (λ i. before ++ owners_from T A k i) (sym count)

same_terms : (T U : Terms) → ◌≡◌ {A = Result Terms Refusal} (Ok T) (Ok U) → T ≡ U
same_terms T U e = cc

-- The rule that was made of a sound market is the only one.
pub made_terms : (p : Layer (Layer Base Node) Tenant) (h : Held) (r : Result (Layer (Layer Base Node) Tenant) Refusal) → PileLaw h (result_map_both terms_of (λ e. e) r) → r ≡ Ok p → SoundMarket h → terms_of p ≡ pile_terms h
made_terms p h r law made sound = same_terms (terms_of p) (pile_terms h) (ap (result_map_both terms_of (λ e. e)) (sym made) ∙ law.accepted sound)
