-- Refusals, computed: each call with each of its codes, where what would be refused later is wrong too.
use Rattle.std.specs.Prelude.{◌≡◌, ℕ, true, List, [], ◌∷◌, ◌++◌, map}
use Rattle.pef_model.specs.declared.config.Config.{Config}
use Rattle.pef_model.specs.declared.command.Code.{Code}
use Rattle.pef_model.specs.declared.command.Code.TheVariants.{USuccess, UParameter, UP2, UP3, UP4, UP5, UFunction, UBusy, UPermission, UInvalid}
use Rattle.pef_model.specs.declared.command.Cmd.{Cmd}
use Rattle.pef_model.specs.declared.command.Cmd.TheVariants.{HLd, HSt, UPagein, UPageout, UInval, GLi, GLd, GSt, GIrq, Go}
use Rattle.pef_model.specs.declared.entry.Exit.TheVariants.{Irq}
use Rattle.pef_model.specs.declared.entry.Answer.{Answer}
use Rattle.pef_model.specs.declared.entry.Answer.TheVariants.{Done, Val, Ret, Step, Enter, Exit, Hole, Again, Context}
use Rattle.pef_model.specs.RunLaw.{small_config, line_at, go_all_at, return_with, page_out_at, store_lines, answers_on, answers_of, moved, stored}

-- a page-out into a frame with all else as it has to be
abbrev pub page_out_to : ℕ → Cmd
page_out_to dest = UPageout 1 dest 0x0 0 8

-- a page-in from a frame with all else as it has to be
abbrev pub page_in_from : ℕ → Cmd
page_in_from src = UPagein 1 src 0x0 0 8

-- codes, one answer each
abbrev pub rets : List Code → List Answer
rets codes = map Ret codes

-- UV_PAGE_OUT: no guest 0, none past the last, one that is Absent; an address in a frame, one past the last frame; an address in a page, one past the last page, a page that is Invalid;
-- a snapshot; another flag; another order; a page that another CPU moves, with another order and without; and commands of that CPU, whose call is in progress
abbrev pub PageOutRefusals : Type 0
PageOutRefusals =
    answers_of
    (store_lines
    ++ (line_at 5 0 (UPageout 0 0x80 0x80 9 9) ∷ line_at 6 0 (UPageout 4 0x80 0x80 9 9) ∷ line_at 7 0 (UPageout 2 0x80 0x80 9 9)
    ∷ line_at 8 0 (UPageout 1 0x80 0x80 9 9) ∷ line_at 9 0 (UPageout 1 0x500 0x80 9 9)
    ∷ line_at 10 0 (UPageout 1 0x400 0x80 9 9) ∷ line_at 11 0 (UPageout 1 0x400 0x400 9 9) ∷ line_at 12 0 (UPageout 1 0x400 0x100 9 9)
    ∷ line_at 13 0 (UPageout 1 0x400 0x0 1 9) ∷ line_at 14 0 (UPageout 1 0x400 0x0 2 9) ∷ line_at 15 0 (UPageout 1 0x400 0x0 0 9)
    ∷ line_at 16 1 (page_out_to 0x400) ∷ line_at 17 0 (UPageout 1 0x0 0x0 0 9) ∷ line_at 18 0 (page_out_to 0x0) ∷ line_at 19 1 (HLd 0x0) ∷ line_at 20 1 (page_out_to 0x0) ∷ []))
    ≡ stored ++ (rets (UParameter ∷ UParameter ∷ UParameter ∷ UP2 ∷ UP2 ∷ UP3 ∷ UP3 ∷ UP3 ∷ UFunction ∷ UP4 ∷ UP5 ∷ []) ++ (Step ∷ Ret UP5 ∷ Ret UBusy ∷ Context ∷ Context ∷ []))

-- UV_PAGE_IN: the guests as above; the frames as above; an address in a page, one past the last page, a page that is Invalid; a flag past the last; another order;
-- a page that another CPU moves, with another order and without; a page that has come in
abbrev pub PageInRefusals : Type 0
PageInRefusals =
    answers_of
    (store_lines
    ++ (page_out_at 5 0x0
    ++ (line_at 7 0 (UPagein 0 0x80 0x80 9 9) ∷ line_at 8 0 (UPagein 4 0x80 0x80 9 9) ∷ line_at 9 0 (UPagein 2 0x80 0x80 9 9)
    ∷ line_at 10 0 (UPagein 1 0x80 0x80 9 9) ∷ line_at 11 0 (UPagein 1 0x500 0x80 9 9)
    ∷ line_at 12 0 (UPagein 1 0x400 0x80 9 9) ∷ line_at 13 0 (UPagein 1 0x400 0x400 9 9) ∷ line_at 14 0 (UPagein 1 0x400 0x100 9 9)
    ∷ line_at 15 0 (UPagein 1 0x400 0x0 8 9) ∷ line_at 16 0 (UPagein 1 0x400 0x0 7 9)
    ∷ line_at 17 1 (UPagein 1 0x0 0x0 7 8) ∷ line_at 18 0 (UPagein 1 0x0 0x0 7 9) ∷ line_at 19 0 (page_in_from 0x0) ∷ go_all_at 20 1 ∷ line_at 21 0 (page_in_from 0x0) ∷ [])))
    ≡ stored ++ (moved ++ (rets (UParameter ∷ UParameter ∷ UParameter ∷ UP2 ∷ UP2 ∷ UP3 ∷ UP3 ∷ UP3 ∷ UP4 ∷ UP5 ∷ []) ++ (Step ∷ Ret UP5 ∷ Ret UBusy ∷ Step ∷ Ret USuccess ∷ Ret UP3 ∷ [])))

-- UV_PAGE_INVAL: the guests as above; an address in a page, one past the last page, a page that is Secure; the orders beside the page's size; a page that is Invalid, and once more; the Secure page as it goes
-- out, once it is Out, and as it comes in; and a guest's own call
abbrev pub InvalRefusals : Type 0
InvalRefusals =
    answers_of
    (store_lines
    ++ (line_at 5 0 (UInval 0 0x80 9) ∷ line_at 6 0 (UInval 4 0x80 9) ∷ line_at 7 0 (UInval 2 0x80 9)
    ∷ line_at 8 0 (UInval 1 0x80 9) ∷ line_at 9 0 (UInval 1 0x400 9) ∷ line_at 10 0 (UInval 1 0x0 9)
    ∷ line_at 11 0 (UInval 1 0x100 9) ∷ line_at 12 0 (UInval 1 0x100 7) ∷ line_at 13 0 (UInval 1 0x100 8) ∷ line_at 14 0 (UInval 1 0x100 8)
    ∷ line_at 15 1 (page_out_to 0x0) ∷ line_at 16 0 (UInval 1 0x0 8) ∷ go_all_at 17 1 ∷ line_at 18 0 (UInval 1 0x0 8)
    ∷ line_at 19 1 (page_in_from 0x0) ∷ line_at 20 0 (UInval 1 0x0 8) ∷ line_at 21 0 (return_with 0) ∷ line_at 22 0 (UInval 0 0x80 9) ∷ []))
    ≡ stored
    ++ (rets (UParameter ∷ UParameter ∷ UParameter ∷ UP2 ∷ UP2 ∷ UP2 ∷ UP3 ∷ UP3 ∷ USuccess ∷ USuccess ∷ [])
    ++ (Step ∷ Ret UP2 ∷ Step ∷ Ret USuccess ∷ Ret UP2 ∷ Step ∷ Ret UP2 ∷ Enter ∷ Ret UPermission ∷ []))

-- a page-in for which no frame is free, with another order and without: the guest has taken the one that there is for another page
abbrev pub NoFrameIsFree : Type 0
NoFrameIsFree =
    answers_of (store_lines ++ (page_out_at 5 0x0 ++ (line_at 7 0 (return_with 0) ∷ line_at 8 0 (GLd 6 0x100) ∷ line_at 9 0 GIrq ∷ line_at 10 0 (UPagein 1 0x0 0x0 0 9) ∷ line_at 11 0 (page_in_from 0x0) ∷ [])))
    ≡ stored ++ (moved ++ (Enter ∷ Val 0 ∷ Exit Irq ∷ Ret UP5 ∷ Ret UBusy ∷ []))

-- a guest while CPU 0 pages its page out: an access answers Again until the page is Out, and Hole then; its own calls that move pages are refused, as are those of the hypervisor's commands that it gives
abbrev pub AGuestMeanwhile : Type 0
AGuestMeanwhile =
    answers_of
    (store_lines
    ++ (line_at 5 1 (return_with 0) ∷ line_at 6 0 (page_out_to 0x0) ∷ line_at 7 1 (GLd 6 0x0) ∷ line_at 8 1 (GSt 20 0x0) ∷ line_at 9 0 Go ∷ line_at 10 1 (GLd 6 0x0) ∷ line_at 11 0 Go
    ∷ line_at 12 1 (GLd 6 0x0) ∷ line_at 13 1 (page_out_to 0x0) ∷ line_at 14 1 (page_in_from 0x0) ∷ line_at 15 1 (return_with 0) ∷ line_at 16 1 (HLd 0x0) ∷ line_at 17 1 Go ∷ line_at 18 0 Go ∷ []))
    ≡ stored ++ (Enter ∷ Step ∷ Again ∷ Again ∷ Step ∷ Again ∷ Ret USuccess ∷ Hole ∷ Ret UPermission ∷ Ret UPermission ∷ Ret UInvalid ∷ Context ∷ Context ∷ Context ∷ [])

-- on a machine with one guest the first is the last
abbrev pub TheLastGuest : Type 0
TheLastGuest = answers_on (record small_config { guests = 1 }) (store_lines ++ (line_at 5 0 (UPageout 2 0x0 0x0 0 8) ∷ line_at 6 0 (page_out_to 0x0) ∷ [])) ≡ stored ++ (Ret UParameter ∷ Step ∷ [])

-- a guest while CPU 0 pages its page in: an access answers Again until the page has come in
abbrev pub AGuestMeanwhileIn : Type 0
AGuestMeanwhileIn =
    answers_of
    (store_lines
    ++ (page_out_at 5 0x0
    ++ (line_at 7 1 (return_with 0) ∷ line_at 8 0 (page_in_from 0x0) ∷ line_at 9 1 (GLd 6 0x0) ∷ line_at 10 0 Go ∷ line_at 11 1 (GSt 20 0x0) ∷ line_at 12 0 Go ∷ line_at 13 1 (GLd 6 0x0) ∷ [])))
    ≡ stored ++ (moved ++ (Enter ∷ Step ∷ Again ∷ Step ∷ Again ∷ Ret USuccess ∷ Val 7 ∷ []))

-- the hypervisor's loads and stores, at addresses that are no multiple of 8, past the last frame, and in its last doubleword and the one before
abbrev pub NormalAtTheEdge : Type 0
NormalAtTheEdge =
    answers_of (line_at 1 0 (HLd 0x4) ∷ line_at 2 0 (HSt 0x4fc 1) ∷ line_at 3 0 (HLd 0x500) ∷ line_at 4 0 (HSt 0x500 1) ∷ line_at 5 0 (HSt 0x4f8 5) ∷ line_at 6 1 (HLd 0x4f8) ∷ line_at 7 1 (HLd 0x4f0) ∷ [])
    ≡ Hole ∷ Hole ∷ Hole ∷ Hole ∷ Done ∷ Val 5 ∷ Val 0 ∷ []

-- a machine whose pages have 512 bytes, three normal frames and three pages
abbrev pub wide_config : Config
wide_config = record small_config { shift = 9; normal = 3; secure = 2; pages = 3; vault = true }

-- its guest stores in the last doubleword of page 1. Out and in again: frames that begin at 256 bytes, past the last frame; addresses that begin at 256 bytes, past the last page; a flag and a snapshot
-- above 2^32, the flag after the last; the orders just beside the page's; what is right. Then the tag in the last frame, its page's number, and what lies in the frame before
abbrev pub PagesOf512Bytes : Type 0
PagesOf512Bytes =
    answers_on wide_config
    (line_at 1 0 (return_with 0) ∷ line_at 2 0 (GLi 20 7) ∷ line_at 3 0 (GSt 20 0x3f8) ∷ line_at 4 0 GIrq
    ∷ line_at 5 0 (UPageout 1 0x100 0x200 0 9) ∷ line_at 6 0 (UPageout 1 0x600 0x200 0 9) ∷ line_at 7 0 (UPageout 1 0x400 0x300 0 9) ∷ line_at 8 0 (UPageout 1 0x400 0x600 0 9)
    ∷ line_at 9 0 (UPageout 1 0x400 0x200 0x100000000 9) ∷ line_at 10 0 (UPageout 1 0x400 0x200 0x100000001 9) ∷ line_at 11 0 (UPageout 1 0x400 0x200 0 8)
    ∷ line_at 12 0 (UPageout 1 0x400 0x200 0 10) ∷ line_at 13 0 (UPageout 1 0x400 0x200 0 9) ∷ go_all_at 14 0
    ∷ line_at 15 0 (HLd 0x400) ∷ line_at 16 0 (HLd 0x410) ∷ line_at 17 0 (HLd 0x200)
    ∷ line_at 18 0 (UPagein 1 0x500 0x200 0 9) ∷ line_at 19 0 (UPagein 1 0x600 0x200 0 9) ∷ line_at 20 0 (UPagein 1 0x400 0x100 0 9) ∷ line_at 21 0 (UPagein 1 0x400 0x600 0 9)
    ∷ line_at 22 0 (UPagein 1 0x400 0x200 0x100000000 9) ∷ line_at 23 0 (UPagein 1 0x400 0x200 8 9) ∷ line_at 24 0 (UPagein 1 0x400 0x200 7 8)
    ∷ line_at 25 0 (UPagein 1 0x400 0x200 7 10) ∷ line_at 26 0 (UPagein 1 0x400 0x200 7 9) ∷ go_all_at 27 0
    ∷ line_at 28 0 (return_with 0) ∷ line_at 29 0 (GLd 6 0x3f8) ∷ line_at 30 0 (GLd 6 0x600) ∷ [])
    ≡ stored ++ (rets (UP2 ∷ UP2 ∷ UP3 ∷ UP3 ∷ UP4 ∷ UP4 ∷ UP5 ∷ UP5 ∷ []) ++ (moved ++ (Val 1 ∷ Val 1 ∷ Val 0 ∷ []))
    ++ (rets (UP2 ∷ UP2 ∷ UP3 ∷ UP3 ∷ UP4 ∷ UP4 ∷ UP5 ∷ UP5 ∷ []) ++ (moved ++ (Enter ∷ Val 7 ∷ Hole ∷ []))))
