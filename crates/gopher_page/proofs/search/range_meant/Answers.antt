use Rattle.gopher_page.proofs.Sought.{meant_words}
use Rattle.gopher_page.proofs.search.range_meant.Goals as goal

pub returns : goal.returns
returns c =
    meant_words c.args.words.now c.requires c.args.sought.now c.args.is_prefix c.words_before-start.result c.words_before-start.ensures.here c.end_of_meant.result
    c.end_of_meant.ensures.forward c.end_of_meant.ensures.within c.words_before-start.ensures.before c.end_of_meant.ensures.meant c.end_of_meant.ensures.others
