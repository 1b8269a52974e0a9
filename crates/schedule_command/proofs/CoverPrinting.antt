-- One list more is printed.
use Rattle.std.proofs.Common.{◌≡◌, ◌∙◌, ℕ, ◌+◌, ◌<◌, List, [], ◌∷◌, ◌++◌, length, take, get_or, Option, sym, ap, subst}
use Rattle.std.specs.Io.KnownBytes.{Appends}
use Rattle.std.proofs.KnownBytes.{Appends-nil, Appends-trans}
use Rattle.std.proofs.lemmas.List.{append-nil, take_more}
use Rattle.std.proofs.lemmas.List.Concat.{flat_map-append}
use Rattle.std.proofs.lemmas.List.Elements.{All-get_or}
use Rattle.std.specs.Prelude.{All}
use Rattle.requests.specs.declared.replay.ReplayOutput.{ReplayOutput}
use Rattle.schedules.specs.Lists.{Meets}
use Rattle.schedules.specs.declared.covering.lists.CoverList.{CoverList}
use Rattle.schedules.specs.declared.covering.tried.Scope.{Scope}
use Rattle.schedule_command.specs.Lists.{joined}
use Rattle.schedule_command.specs.Covers.{AreTexts, IsText, PrintsLists}

texts-more : (s : Scope) (expect : Option ReplayOutput) (ls : List CoverList) (ts : List (List ℕ)) (l : CoverList) (t : List ℕ) → AreTexts s expect ls ts → IsText s expect l t
    → AreTexts s expect (ls ++ l ∷ []) (ts ++ t ∷ [])
texts-more s expect [] [] l t are is = (is, tt)
texts-more s expect [] (y ∷ ts) l t are is = absurd are
texts-more s expect (x ∷ ls) [] l t are is = absurd are
texts-more s expect (x ∷ ls) (y ∷ ts) l t are is = (are.0, texts-more s expect ls ts l t are.1 is)

joined-append : (ts : List (List ℕ)) (t : List ℕ) → joined (ts ++ t ∷ []) ≡ joined ts ++ t
joined-append ts t = flat_map-append (λ (x : List ℕ). x) ts (t ∷ []) ∙ ap (λ (x : List ℕ). joined ts ++ x) (append-nil t)

pub none-printed : (s : Scope) (expect : Option ReplayOutput) (old : Option (List ℕ)) → PrintsLists s expect [] old old
none-printed s expect old = record { texts = []; are_texts = tt; appends = Appends-nil old }

one-printed : (s : Scope) (expect : Option ReplayOutput) (ls : List CoverList) (l : CoverList) (old now later : Option (List ℕ)) (text : List ℕ) → IsText s expect l text → Appends now later text
    → PrintsLists s expect ls old now → PrintsLists s expect (ls ++ l ∷ []) old later
one-printed s expect ls l old now later text is adds p = record {
  texts = p.texts ++ text ∷ [];
  are_texts = texts-more s expect ls p.texts l text p.are_texts is;
  appends = subst (Appends old later) (sym (joined-append p.texts text)) (Appends-trans old now later (joined p.texts) text p.appends adds);
}

pub next-printed : (s : Scope) (expect : Option ReplayOutput) (lists : List CoverList) (k : ℕ) (l : CoverList) (old now later : Option (List ℕ)) (text : List ℕ) → k < length lists → l ≡ get_or lists k l
    → IsText s expect l text → Appends now later text → PrintsLists s expect (take k lists) old now → PrintsLists s expect (take (k + 1) lists) old later
next-printed s expect lists k l old now later text below found is adds p =
    subst (λ (ls : List CoverList). PrintsLists s expect ls old later) (sym (take_more lists k l below ∙ ap (λ (x : CoverList). take k lists ++ x ∷ []) (sym found)))
    (one-printed s expect (take k lists) l old now later text is adds p)

-- each of the lists that are printed meets its pair
pub item-meets : (s : Scope) (lists : List CoverList) (k : ℕ) (l : CoverList) → k < length lists → l ≡ get_or lists k l → All (Meets s) lists → Meets s l
item-meets s lists k l below found all = subst (λ (x : CoverList). Meets s x) (sym found) (All-get_or (Meets s) lists k l below all)
