-- The library's box, as the walks see it: a call passes the rows at layouts without names.
use Rattle.std.proofs.Common.{◌≡◌, List, [], ◌∷◌, refl}
use seplogic.Ra.Ura.{Ura}
use prog.Model.{Model}
use prog.Wired.{Wired}
use types.Logic.{Logic}
use types.Kit.{Goal, Item, Seq}
use contract.Running.{Running}
use denote.Param.Glue as glue
use denote.Triple.Carry.{spared}
use denote.Triple.Spec.{triple_of}
use denote.Triple.Table.{run_framed, widened}
use Rattle.std.specs.declared.option.Option.{Option}
use Rattle.std.specs.declared.option.Option.TheVariants.{None, Some}
use Rattle.skewguard_c.specs.contracts.calls++libraries++Library+Destruct.drop as dropped
use Rattle.skewguard_c.proofs.calls++libraries++Library+Destruct.drop.Met as dropped_met
use Rattle.skewguard_c.proofs.calls++libraries++Library+Destruct.drop.Symbol as symbol
use mir.Raw.{raw}
use mir.Syntax.{Callee, Dict, impl, method, no_args, tcons, tnil, dnil}
use mir.Val.{Val}
use denote.Exit.{no}
use denote.Param.{layout, arg}
use denote.Param.Laws.{Laws, arg_laws}
use denote.RattleType.{RattleType}
use Rattle.std_alloc.proofs.BoxSteps.Form.{Bx}
use Rattle.std.specs.contracts.alloc.Global.{the_row as Heap}
use Rattle.std.proofs.alloc.Global.TheLaws as heap_laws
use Rattle.std.specs.contracts.impls.GlobalAllocator.TheImpl.{ghosts, dict}
use Rattle.calls.specs.contracts.libraries.Library.{the_row as E}
use Rattle.calls.proofs.libraries.Library.TheLaws as library_laws

abbrev pub heap_vals : Heap.Denot → List Val
heap_vals a = heap_laws.lowers.lowered a ∷ []

abbrev pub Heap' : RattleType
Heap' = arg (raw (layout Heap)) no Heap

abbrev pub LHeap : Laws Heap'
LHeap = arg_laws (raw (layout Heap)) no Heap heap_laws.the_row_laws refl

abbrev pub E' : RattleType
E' = arg (raw (layout E)) no E

abbrev pub LE : Laws E'
LE = arg_laws (raw (layout E)) no E library_laws.the_row_laws refl

-- a `Global` is dropped by doing nothing
abbrev pub drops : Dict
drops = impl ("skewguard_c::Destruct++none::drop" ∷ []) (tcons (layout Heap') tnil) dnil

abbrev pub Eb : Bx
Eb = record { row = E'; laws = LE; al = record { row = Heap'; laws = LHeap; g = ghosts; d = dict; drops = drops } }

-- a library is dropped by the method that this crate has for it
abbrev pub library_drops : Dict
library_drops = impl ("skewguard_c::calls++libraries++Library+Destruct::drop" ∷ []) tnil dnil

pub library_glue : {M : Type 1} (𝓤 : Ura M) (𝓛 : Logic 𝓤) (𝓜 : Model 𝓤 𝓛.H) (𝓡 : Running 𝓤 𝓛.H 𝓜) → Wired 𝓡.env symbol.code → glue.Met 𝓛 𝓜 𝓡 𝓡.env E' library_drops
library_glue 𝓤 𝓛 𝓜 𝓡 wired =
    let k : Callee = method library_drops 0 no_args in let c = dropped.spec 𝓛 𝓜.mem 𝓡.returns in
    spared 𝓛 dropped.signature (𝓡.run (𝓡.env k)) (run_framed 𝓤 𝓛.H 𝓜 𝓡 (𝓡.env k)) 1 (E'.lives, tt) c
    (widened 𝓤 𝓛.H (triple_of 𝓛 dropped.signature c) 𝓜 𝓡 𝓡.env (𝓡.env symbol.name) (𝓡.env k) (symbol.as_method 𝓡.env wired k refl) (dropped_met.met 𝓤 𝓛 𝓜 𝓡 wired))

-- an option is one or the other
pub by_option : {M : Type 1} {𝓤 : Ura M} {𝓛 : Logic 𝓤} {K : Type 0} {Γ : List (Item 𝓤)} {G : Goal 𝓤 𝓛.H} {X : Type 0} → K → (r : Option X) (F : Option X → Item 𝓤)
    → ((x : X) → r ≡ Some x → Seq K 𝓛 (F (Some x) ∷ Γ) G) → (r ≡ None → Seq K 𝓛 (F None ∷ Γ) G) → Seq K 𝓛 (F r ∷ Γ) G
by_option t (Some x) F s n = s x refl
by_option t None F s n = n refl
