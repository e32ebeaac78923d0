-- What every expression that fits gives, by induction over expressions.
use Rattle.std.proofs.Common.{List, map, subst, sym}
use Rattle.kql_bound.specs.declared.expr.BExpr.{BExpr, ind-BExpr, map-BExpr, roll-BExpr}
use Rattle.kql_bound.specs.declared.expr.BExpr.TheOpen.{BExpr-F}
use Rattle.kql_bound.specs.declared.expr.BExpr.TheVariants as V
use Rattle.kql_bound.specs.declared.expr.ChainSign.{ChainSign}
use Rattle.kql_meaning.proofs.MemberLaws.{Member, member-of-map}
use Rattle.kql_fit_laws.proofs.AggregateRows.{aggregate-gives}
use Rattle.kql_fit_laws.proofs.ExpressionRows.{EachGives, call-gives, chain-gives, column-gives, literal-gives, path-gives, step-gives}
use Rattle.kql_fit_laws.proofs.WindowRows.{window-gives}
use Rattle.kql_fit_laws.specs.LawsOfExpressions.{ExpressionsKeep, GivesItsKind}

-- An expression with the fact that it gives its type.
abbrev Given : Type 0
Given = (e : BExpr) × GivesItsKind e

abbrev bare : Given → BExpr
bare p = p.0

abbrev bare_link : ChainSign × Given → ChainSign × BExpr
bare_link l = (l.0, l.1.0)

each-given : (ps : List Given) → EachGives (map bare ps)
each-given ps e m = let q = member-of-map bare ps e m in subst GivesItsKind q.2 q.0.1

each-link : (ls : List (ChainSign × Given)) (l : ChainSign × BExpr) → Member l (map bare_link ls) → GivesItsKind l.1
each-link ls l m = let q = member-of-map bare_link ls l m in subst (λ (k : ChainSign × BExpr). GivesItsKind k.1) q.2 q.0.1.1

of-layer : (y : BExpr-F Given) → GivesItsKind (roll-BExpr (map-BExpr Given BExpr bare y))
of-layer (BExpr-F.Literal l) = subst GivesItsKind (sym (V.rolls-Literal l)) (literal-gives l)
of-layer (BExpr-F.Column n) = subst GivesItsKind (sym (V.rolls-Column n)) (column-gives n)
of-layer (BExpr-F.Step c) = subst GivesItsKind (sym (V.rolls-Step c)) (step-gives c)
of-layer (BExpr-F.Call f args) = subst GivesItsKind (sym (V.rolls-Call f (map bare args))) (call-gives f (map bare args) (each-given args))
of-layer (BExpr-F.Chain first links) = subst GivesItsKind (sym (V.rolls-Chain first.0 (map bare_link links))) (chain-gives first.0 (map bare_link links) first.1 (each-link links))
of-layer (BExpr-F.Path whole steps) = subst GivesItsKind (sym (V.rolls-Path whole.0 (map bare steps))) (path-gives whole.0 (map bare steps) whole.1 (each-given steps))
of-layer (BExpr-F.Window f args) = subst GivesItsKind (sym (V.rolls-Window f (map bare args))) (window-gives f (map bare args))
of-layer (BExpr-F.Aggregate f args) = subst GivesItsKind (sym (V.rolls-Aggregate f (map bare args))) (aggregate-gives f (map bare args) (each-given args))

pub expressions_keep : ExpressionsKeep
expressions_keep = ind-BExpr GivesItsKind (λ x y is. subst (λ (z : BExpr-F BExpr). GivesItsKind (roll-BExpr z)) is (of-layer y))
