-- What options that each may stand once leave in the rows of a parse: one row for each that stands, in their order, and at
-- last a default for each that does not. It knows no command.
use Rattle.std.proofs.Common.{◌≡◌, ◌∙◌, ap, sym, subst, refl, arith, Bool, true, false, not, ◌&&◌, List, [], ◌∷◌, ◌++◌, ◌==◌, length, Option, Some, None, unwrap_or}
use Rattle.std.specs.Prelude.{◌||◌, if◌then◌else◌, find, fold}
use Rattle.std.specs.List.{list_all, list_any}
use Rattle.std.specs.Str.{bytes_eq}
use Rattle.std.proofs.lemmas.Bool.{ne_eqb}
use Rattle.std.proofs.lemmas.List.{append_assoc, append-nil}
use Rattle.clap.specs.Walk.{arg_by_id, default_rows, has_row, is_empty, more_values, reading_by, with_default, with_values, without, at_row}
use Rattle.clap.specs.Words.{Row, Rule, Text}
use Rattle.clap.specs.declared.builder.value_parser.Reading.{Reading}
use Rattle.clap.specs.declared.parser.matches.ValueSource.{ValueSource}
use Rattle.clap.specs.declared.parser.matches.ValueSource.TheVariants.{CommandLine, DefaultValue}

-- ---- either side of a disjunction

or-left : (a b : Bool) → (a || b) ≡ false → a ≡ false
or-left true b is = cc is
or-left false b is = refl

or-right : (a b : Bool) → (a || b) ≡ false → b ≡ false
or-right true b is = cc is
or-right false b is = is

pub both-false : (a b : Bool) → a ≡ false → b ≡ false → (a || b) ≡ false
both-false true b is other = cc is
both-false false b is other = other

-- and both sides of a conjunction
pub and-left : (a b : Bool) → (a && b) ≡ true → a ≡ true
and-left true b is = refl
and-left false b is = cc is

pub and-right : (a b : Bool) → (a && b) ≡ true → b ≡ true
and-right true b is = is
and-right false b is = cc is

-- ---- rows

-- the row of a use
abbrev pub row : Text → Reading → ValueSource → List Text → Row
row id how source values = record { id = id; values = values; count = None; source = Some source; reading = how }

abbrev pub found : Text → List Row → Option Row
found id rows = find (λ r. bytes_eq r.id id) rows

at_row-absent : (id : Text) (change : Row → List Row) (missing rows : List Row) → has_row id rows ≡ false → at_row id change missing rows ≡ rows ++ missing
at_row-absent id change missing [] absent = refl
at_row-absent id change missing (r ∷ rs) absent =
    by-first (bytes_eq r.id id) (or-left (bytes_eq r.id id) (has_row id rs) absent) (at_row-absent id change missing rs (or-right (bytes_eq r.id id) (has_row id rs) absent))
  where
    by-first : (b : Bool) → b ≡ false → at_row id change missing rs ≡ rs ++ missing
        → (if b then change r ++ rs else r ∷ at_row id change missing rs) ≡ r ∷ (rs ++ missing)
    by-first true other later = cc other
    by-first false other later = ap (λ (l : List Row). r ∷ l) later

-- a use of an argument that was not used
pub used-absent : (id : Text) (how : Reading) (source : ValueSource) (values : List Text) (rows : List Row) → has_row id rows ≡ false
    → with_values id how source values rows ≡ rows ++ row id how source values ∷ []
used-absent id how source values rows absent = at_row-absent id (more_values source values) (row id how source values ∷ []) rows absent

at_row-later : (id : Text) (change : Row → List Row) (missing xs ys : List Row) → has_row id xs ≡ false → at_row id change missing (xs ++ ys) ≡ xs ++ at_row id change missing ys
at_row-later id change missing [] ys absent = refl
at_row-later id change missing (x ∷ xs) ys absent =
    by-first (bytes_eq x.id id) (or-left (bytes_eq x.id id) (has_row id xs) absent) (at_row-later id change missing xs ys (or-right (bytes_eq x.id id) (has_row id xs) absent))
  where
    by-first : (b : Bool) → b ≡ false → at_row id change missing (xs ++ ys) ≡ xs ++ at_row id change missing ys
        → (if b then change x ++ (xs ++ ys) else x ∷ at_row id change missing (xs ++ ys)) ≡ x ∷ (xs ++ at_row id change missing ys)
    by-first true other later = cc other
    by-first false other later = ap (λ (l : List Row). x ∷ l) later

pub without-absent : (id : Text) (rows : List Row) → has_row id rows ≡ false → without id rows ≡ rows
without-absent id rows absent = at_row-absent id (λ _. []) [] rows absent ∙ append-nil rows

has_row-append : (id : Text) (xs ys : List Row) → has_row id xs ≡ false → has_row id ys ≡ false → has_row id (xs ++ ys) ≡ false
has_row-append id [] ys first second = second
has_row-append id (x ∷ xs) ys first second =
    both-false (bytes_eq x.id id) (has_row id (xs ++ ys)) (or-left (bytes_eq x.id id) (has_row id xs) first)
    (has_row-append id xs ys (or-right (bytes_eq x.id id) (has_row id xs) first) second)

found-later : (id : Text) (xs ys : List Row) → has_row id xs ≡ false → found id (xs ++ ys) ≡ found id ys
found-later id [] ys absent = refl
found-later id (x ∷ xs) ys absent =
    by-first (bytes_eq x.id id) (or-left (bytes_eq x.id id) (has_row id xs) absent) (found-later id xs ys (or-right (bytes_eq x.id id) (has_row id xs) absent))
  where
    by-first : (b : Bool) → b ≡ false → found id (xs ++ ys) ≡ found id ys → (if b then Some x else found id (xs ++ ys)) ≡ found id ys
    by-first true other later = cc other
    by-first false other later = later

found-earlier : (id : Text) (xs ys : List Row) (r : Row) → found id xs ≡ Some r → found id (xs ++ ys) ≡ Some r
found-earlier id [] ys r is = cc is
found-earlier id (x ∷ xs) ys r is = by-first (bytes_eq x.id id) is (found-earlier id xs ys r)
  where
    by-first : (b : Bool) → (if b then Some x else found id xs) ≡ Some r → (found id xs ≡ Some r → found id (xs ++ ys) ≡ Some r)
        → (if b then Some x else found id (xs ++ ys)) ≡ Some r
    by-first true is later = is
    by-first false is later = later is

-- ---- options in their order

-- an option, and its values where it stands
pub record OptionUse : Type 0 where
  pub id : Text
  pub how : Reading
  pub values : Option (List Text)

abbrev use_rows : Text → Reading → Option (List Text) → List Row
use_rows id how None = []
use_rows id how (Some values) = row id how CommandLine values ∷ []

abbrev pub rows_in : List OptionUse → List Row
rows_in [] = []
rows_in (u ∷ us) = use_rows u.id u.how u.values ++ rows_in us

-- whether one of them has this id
abbrev pub mentions : Text → List OptionUse → Bool
mentions id us = list_any (λ u. bytes_eq u.id id) us

use-absent : (id other : Text) (how : Reading) (values : Option (List Text)) → bytes_eq other id ≡ false → has_row id (use_rows other how values) ≡ false
use-absent id other how None is = refl
use-absent id other how (Some values) is = both-false (bytes_eq other id) false is refl

pub absent-in : (id : Text) (us : List OptionUse) → mentions id us ≡ false → has_row id (rows_in us) ≡ false
absent-in id [] unseen = refl
absent-in id (u ∷ us) unseen =
    has_row-append id (use_rows u.id u.how u.values) (rows_in us) (use-absent id u.id u.how u.values (or-left (bytes_eq u.id id) (mentions id us) unseen))
    (absent-in id us (or-right (bytes_eq u.id id) (mentions id us) unseen))

rows_in-append : (us vs : List OptionUse) → rows_in (us ++ vs) ≡ rows_in us ++ rows_in vs
rows_in-append [] vs = refl
rows_in-append (u ∷ us) vs =
    let mine = use_rows u.id u.how u.values in
    ap (λ (l : List Row). mine ++ l) (rows_in-append us vs) ∙ sym (append_assoc mine (rows_in us) (rows_in vs))

-- one option more that stands, and one that does not
pub rows-used : (us : List OptionUse) (id : Text) (how : Reading) (values : List Text)
    → rows_in us ++ row id how CommandLine values ∷ [] ≡ rows_in (us ++ record { id = id; how = how; values = Some values } ∷ [])
rows-used us id how values = sym (rows_in-append us (record { id = id; how = how; values = Some values } ∷ []))

pub rows-unused : (us : List OptionUse) (id : Text) (how : Reading) → rows_in us ≡ rows_in (us ++ record { id = id; how = how; values = None } ∷ [])
rows-unused us id how = sym (append-nil (rows_in us)) ∙ sym (rows_in-append us (record { id = id; how = how; values = None } ∷ []))

-- one value more of an option that stood last
pub one-longer : (us : List OptionUse) (id : Text) (how : Reading) (values more : List Text) → mentions id us ≡ false → bytes_eq id id ≡ true
    → with_values id how CommandLine more (rows_in us ++ row id how CommandLine values ∷ []) ≡ rows_in us ++ row id how CommandLine (values ++ more) ∷ []
one-longer us id how values more unseen same =
    let change : Row → List Row = more_values CommandLine more in
    let missing : List Row = row id how CommandLine more ∷ [] in
    let last : Row = row id how CommandLine values in
    at_row-later id change missing (rows_in us) (last ∷ []) (absent-in id us unseen)
    ∙ ap (λ b. rows_in us ++ (if b then change last ++ [] else last ∷ missing)) same

-- the row of an option that stands
pub found-use : (before after : List OptionUse) (id : Text) (how : Reading) (values : List Text) → mentions id before ≡ false → bytes_eq id id ≡ true
    → found id (rows_in (before ++ record { id = id; how = how; values = Some values } ∷ after)) ≡ Some (row id how CommandLine values)
found-use before after id how values unseen same =
    let u : OptionUse = record { id = id; how = how; values = Some values } in
    ap (found id) (rows_in-append before (u ∷ after))
    ∙ (found-later id (rows_in before) (rows_in (u ∷ after)) (absent-in id before unseen)
    ∙ ap (λ b. if b then Some (row id how CommandLine values) else found id (rows_in after)) same)

-- and of one that does not there is none
pub absent-use : (before after : List OptionUse) (id : Text) (how : Reading) → mentions id before ≡ false → mentions id after ≡ false
    → has_row id (rows_in (before ++ record { id = id; how = how; values = None } ∷ after)) ≡ false
absent-use before after id how first second =
    let u : OptionUse = record { id = id; how = how; values = None } in
    ap (has_row id) (rows_in-append before (u ∷ after))
    ∙ has_row-append id (rows_in before) (rows_in after) (absent-in id before first) (absent-in id after second)

-- ---- defaults

keeps-found : (id : Text) (a : Rule) (rows : List Row) (r : Row) → found id rows ≡ Some r → found id (with_default rows a) ≡ Some r
keeps-found id a rows r is = by-has (has_row a.id rows) refl
  where
    by-defaults : (ds : List Text) → has_row a.id rows ≡ false → found id (default_rows a.id (reading_by a) ds rows) ≡ Some r
    by-defaults [] unseen = is
    by-defaults (v ∷ vs) unseen =
        ap (found id) (used-absent a.id (reading_by a) DefaultValue (v ∷ vs) rows unseen)
        ∙ found-earlier id rows (row a.id (reading_by a) DefaultValue (v ∷ vs) ∷ []) r is

    by-has : (b : Bool) → has_row a.id rows ≡ b → found id (if b then rows else default_rows a.id (reading_by a) a.defaults rows) ≡ Some r
    by-has true seen = is
    by-has false unseen = by-defaults a.defaults unseen

-- what was found stays, whatever defaults come after it
pub all-keep : (id : Text) (rules : List Rule) (rows : List Row) (r : Row) → found id rows ≡ Some r → found id (fold with_default rows rules) ≡ Some r
all-keep id [] rows r is = is
all-keep id (a ∷ rules) rows r is = all-keep id rules (with_default rows a) r (keeps-found id a rows r is)

skips : (id : Text) (a : Rule) (rows : List Row) → has_row id rows ≡ false → bytes_eq a.id id ≡ false → has_row id (with_default rows a) ≡ false
skips id a rows absent other = by-has (has_row a.id rows) refl
  where
    by-defaults : (ds : List Text) → has_row a.id rows ≡ false → has_row id (default_rows a.id (reading_by a) ds rows) ≡ false
    by-defaults [] unseen = absent
    by-defaults (v ∷ vs) unseen =
        ap (has_row id) (used-absent a.id (reading_by a) DefaultValue (v ∷ vs) rows unseen)
        ∙ has_row-append id rows (row a.id (reading_by a) DefaultValue (v ∷ vs) ∷ []) absent (both-false (bytes_eq a.id id) false other refl)

    by-has : (b : Bool) → has_row a.id rows ≡ b → has_row id (if b then rows else default_rows a.id (reading_by a) a.defaults rows) ≡ false
    by-has true seen = absent
    by-has false unseen = by-defaults a.defaults unseen

default-given : (a : Rule) (rows : List Row) (v : Text) (vs : List Text) → has_row a.id rows ≡ false → a.defaults ≡ v ∷ vs → bytes_eq a.id a.id ≡ true
    → found a.id (with_default rows a) ≡ Some (row a.id (reading_by a) DefaultValue (v ∷ vs))
default-given a rows v vs absent defaults same =
    ap (λ b. found a.id (if b then rows else default_rows a.id (reading_by a) a.defaults rows)) absent
    ∙ (ap (λ (ds : List Text). found a.id (default_rows a.id (reading_by a) ds rows)) defaults
    ∙ (ap (found a.id) (used-absent a.id (reading_by a) DefaultValue (v ∷ vs) rows absent)
    ∙ (found-later a.id rows (row a.id (reading_by a) DefaultValue (v ∷ vs) ∷ []) absent
    ∙ ap (λ b. if b then Some (row a.id (reading_by a) DefaultValue (v ∷ vs)) else None) same)))

-- an option that does not stand has its default at last
pub default-found : (rules : List Rule) (a : Rule) (rows : List Row) (v : Text) (vs : List Text) → has_row a.id rows ≡ false → arg_by_id rules a.id ≡ Some a
    → a.defaults ≡ v ∷ vs → bytes_eq a.id a.id ≡ true → found a.id (fold with_default rows rules) ≡ Some (row a.id (reading_by a) DefaultValue (v ∷ vs))
default-found [] a rows v vs absent is defaults same = cc is
default-found (b ∷ rules) a rows v vs absent is defaults same =
    by-first (bytes_eq b.id a.id) refl is (λ other later. default-found rules a (with_default rows b) v vs (skips a.id b rows absent other) later defaults same)
  where
    by-first : (t : Bool) → bytes_eq b.id a.id ≡ t → (if t then Some b else arg_by_id rules a.id) ≡ Some a
        → (bytes_eq b.id a.id ≡ false → arg_by_id rules a.id ≡ Some a → found a.id (fold with_default (with_default rows b) rules) ≡ Some (row a.id (reading_by a) DefaultValue (v ∷ vs)))
        → found a.id (fold with_default (with_default rows b) rules) ≡ Some (row a.id (reading_by a) DefaultValue (v ∷ vs))
    by-first true here first later =
        let one : a ≡ b = sym (ap (λ (o : Option Rule). unwrap_or o a) first) in
        subst (λ (r : Rule). found a.id (fold with_default (with_default rows r) rules) ≡ Some (row a.id (reading_by a) DefaultValue (v ∷ vs))) one
        (all-keep a.id rules (with_default rows a) (row a.id (reading_by a) DefaultValue (v ∷ vs)) (default-given a rows v vs absent defaults same))
    by-first false other first later = later other first

-- ---- an option without a default

no-default : (id : Text) (a : Rule) (rows : List Row) → a.defaults ≡ [] → has_row id rows ≡ false → has_row id (with_default rows a) ≡ false
no-default id a rows none absent = by-has (has_row a.id rows)
  where
    by-has : (b : Bool) → has_row id (if b then rows else default_rows a.id (reading_by a) a.defaults rows) ≡ false
    by-has true = absent
    by-has false = ap (λ (ds : List Text). has_row id (default_rows a.id (reading_by a) ds rows)) none ∙ absent

found-none : (id : Text) (rows : List Row) → has_row id rows ≡ false → found id rows ≡ None
found-none id [] absent = refl
found-none id (r ∷ rs) absent = by-first (bytes_eq r.id id) (or-left (bytes_eq r.id id) (has_row id rs) absent) (found-none id rs (or-right (bytes_eq r.id id) (has_row id rs) absent))
  where
    by-first : (b : Bool) → b ≡ false → found id rs ≡ None → (if b then Some r else found id rs) ≡ None
    by-first true other later = cc other
    by-first false other later = later

no-values : (vs : List Text) → is_empty vs ≡ true → vs ≡ []
no-values [] none = refl
no-values (v ∷ vs) none =
    let some : (length (v ∷ vs) == 0) ≡ false = ne_eqb _ _ (λ e. omega (arith, e)) in
    let bad : true ≡ false = sym none ∙ some in cc bad

-- one that does not stand has no row at last
pub never-found : (rules : List Rule) (rows : List Row) (id : Text) → has_row id rows ≡ false
    → list_all (λ a. not (bytes_eq a.id id) || is_empty a.defaults) rules ≡ true → found id (fold with_default rows rules) ≡ None
never-found [] rows id absent none = found-none id rows absent
never-found (a ∷ rules) rows id absent none =
    let others = list_all (λ (b : Rule). not (bytes_eq b.id id) || is_empty b.defaults) rules in
    never-found rules (with_default rows a) id (by-first (bytes_eq a.id id) refl (and-left (not (bytes_eq a.id id) || is_empty a.defaults) others none))
    (and-right (not (bytes_eq a.id id) || is_empty a.defaults) others none)
  where
    by-first : (t : Bool) → bytes_eq a.id id ≡ t → (not t || is_empty a.defaults) ≡ true → has_row id (with_default rows a) ≡ false
    by-first true here empty = no-default id a rows (no-values a.defaults empty) absent
    by-first false other empty = skips id a rows absent other
