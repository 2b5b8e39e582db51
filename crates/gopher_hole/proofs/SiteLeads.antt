-- Any number of answers of a site.
use Rattle.std.proofs.Common.{◌≡◌, ℕ, List, [], ◌∷◌, Option, None, Some, sym, subst}
use mathlib.Core.List.{IsPrefix}
use Rattle.gopher_crew.proofs.Prefixes.{prefix_self, prefix_trans}
use Rattle.gopher_item.specs.Leads.{Leads, stays, goes}
use Rattle.gopher_crew.specs.Pass.{PassData, SeesOn}
use Rattle.gopher_item.specs.Place.{HomeData}
use Rattle.gopher_page.specs.Query.{TermData}
use Rattle.gopher_tree.specs.Files.{File}
use Rattle.gopher_index.specs.declared.hit.Hit.{Hit}
use Rattle.gopher_hole.specs.Answer.{SiteData, LeadsOn, NoAliasesChangeNothing, SearchesTakeNothingBack, AnswersAliased, AnswersLine, Searches, terms_of_line, terms_with}
use Rattle.gopher_hole.specs.Aliases.{Alias}

sees_on : (a b : SiteData) → Leads LeadsOn a b → SeesOn a.pass b.pass
sees_on a b stays = record { seen = prefix_self a.pass.seen; told = prefix_self a.pass.told }
sees_on a b (goes {middle} more one) =
    let on = sees_on a middle more in
    record { seen = prefix_trans _ _ _ on.seen one.pass.seen; told = prefix_trans _ _ _ on.told one.pass.told }

pub nothing_back : SearchesTakeNothingBack
nothing_back before asked after terms hits leads found =
    let on = sees_on before asked leads in
    (prefix_trans _ _ _ on.seen found.sees_on.seen, subst (λ l. IsPrefix before.pass.told l) found.none_told (prefix_trans _ _ _ on.told found.sees_on.told))

pub sees_itself : (pass : PassData) → SeesOn pass pass
sees_itself pass = record { seen = prefix_self pass.seen; told = prefix_self pass.told }

-- a pass that answered a line sees on
searched_sees_on : (old new : PassData) (terms : List TermData) (outcome : Option (List Hit)) → Searches old new terms outcome → SeesOn old new
searched_sees_on old new [] outcome same = subst (λ pass. SeesOn old pass) (sym same) (sees_itself old)
searched_sees_on old new (term ∷ terms) None failed = failed.0
searched_sees_on old new (term ∷ terms) (Some hits) found = found.sees_on

pub answered_sees_on : (files : List File) (home : HomeData) (old new : PassData) (line reply : List ℕ) → AnswersLine files home old new line reply → SeesOn old new
answered_sees_on files home old new line reply answered = searched_sees_on old new (terms_of_line line) answered.outcome answered.searched

pub aliased_sees_on : (aliases : List Alias) (files : List File) (home : HomeData) (old new : PassData) (line reply : List ℕ) → AnswersAliased aliases files home old new line reply → SeesOn old new
aliased_sees_on aliases files home old new line reply answered = searched_sees_on old new (terms_with aliases line) answered.outcome answered.searched

-- a site without aliases
pub no_aliases : NoAliasesChangeNothing
no_aliases files home old new line reply answered = record { outcome = answered.outcome; searched = answered.searched; reply_is = answered.reply_is }
